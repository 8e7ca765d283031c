use Rattle.std.proofs.Common.{◌≡◌, ◌++◌}
use Rattle.toml.specs.View.{members_view}
use Rattle.report_texts.specs.Holidays.{doubtful_among, named_among}
use Rattle.report_texts.proofs.holidays.first_named.Given as goal

-- the names so far and those of the entries that are left are those of all entries, and so are the doubtful days
abbrev pub invariant-loop-key : goal.invariant-loop-key
invariant-loop-key l = record {
  names : l.found.names.items ++ named_among (members_view l.key-iterator) ≡ named_among (members_view l.table.entries);
  doubtful : l.found.doubtful.items ++ doubtful_among (named_among (members_view l.key-iterator)) ≡ doubtful_among (named_among (members_view l.table.entries));
}
