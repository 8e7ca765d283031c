use Rattle.std.proofs.Common.{◌≡◌, length}
use Rattle.court_days.specs.Days.Table.{last_entry, AreEntries, permitted_at}
use Rattle.court_days.proofs.days.table.table_of.Given as goal

-- the places so far have their entries
abbrev pub invariant-loop-place : goal.invariant-loop-place
invariant-loop-place l = record {
  whole : length l.entries.items ≡ l.place;
  last : l.last ≡ last_entry (permitted_at l.holidays l.direction) l.place;
  made : AreEntries (permitted_at l.holidays l.direction) l.entries.items;
}
