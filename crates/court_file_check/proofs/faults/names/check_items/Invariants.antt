use Rattle.std.proofs.Common.{◌≡◌, ◌++◌, [], drop}
use Rattle.toml.specs.View.{items_view}
use Rattle.court_file_check.specs.Inside.Names.{texts_of}
use Rattle.court_file_check.specs.Faults.{each_name}
use Rattle.court_file_check.proofs.faults.names.check_items.Given as goal

-- the faults so far and those of the items left are those of all items
abbrev pub invariant-loop-number : goal.invariant-loop-number
invariant-loop-number l = l.faults ++ each_name l.key l.number (texts_of l.names.items) (items_view (drop l.number l.values)) ≡ l.initial.faults ++ each_name l.key 0 [] (items_view l.values)
