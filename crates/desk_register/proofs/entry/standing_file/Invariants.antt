use Rattle.std.proofs.Common.{◌≡◌, ◌≤◌, take}
use Rattle.desk_journal.specs.Words.{batch_of}
use Rattle.desk_register.specs.Entries.{standing_file}
use Rattle.desk_register.proofs.entry.standing_file.Given as goal

abbrev pub invariant-loop-place : goal.invariant-loop-place
invariant-loop-place l = record {
  begun : 1 ≤ l.place;
  file : l.file ≡ standing_file (batch_of (take l.place l.entries));
}
