use Rattle.std.proofs.Common.{◌≤◌, take}
use Rattle.desk_journal.specs.Words.{batch_of}
use Rattle.desk_entries.specs.Inside.Walk.{IsWalked}
use Rattle.desk_entries.proofs.what_stands.Walk.take_later.Given as goal

-- the entries so far are taken
abbrev pub invariant-loop-place : goal.invariant-loop-place
invariant-loop-place l = record {
  begun : 1 ≤ l.place;
  is : IsWalked l.self (batch_of (take l.place l.entries));
}
