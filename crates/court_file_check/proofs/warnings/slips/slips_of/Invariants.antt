use Rattle.std.proofs.Common.{◌≡◌, ◌++◌, None, drop}
use Rattle.toml.specs.View.{items_view}
use Rattle.court_file_check.specs.Warnings.{slips_from}
use Rattle.court_file_check.proofs.warnings.slips.slips_of.Given as goal

-- the slips so far and those of the items left are those of all items
abbrev pub invariant-loop-number : goal.invariant-loop-number
invariant-loop-number l = l.slips.items ++ slips_from l.days l.number l.before (items_view (drop l.number l.values)) ≡ slips_from l.days 0 None (items_view l.values)
