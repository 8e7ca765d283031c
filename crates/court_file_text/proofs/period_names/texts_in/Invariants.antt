use Rattle.std.proofs.Common.{◌≡◌, ◌++◌}
use Rattle.toml.specs.View.{members_view}
use Rattle.court_file_text.specs.PeriodNames.{texts_among}
use Rattle.court_file_text.proofs.period_names.texts_in.Given as goal

-- the texts so far and those of the entries that are left are those of all entries
abbrev pub invariant-loop-key : goal.invariant-loop-key
invariant-loop-key l = l.texts.items ++ texts_among (members_view l.key-iterator) ≡ texts_among (members_view l.table.entries)
