use Rattle.std.proofs.Common.{◌≤◌, length, take}
use Rattle.desk_journal.specs.Words.{batch_of}
use Rattle.desk_entries.specs.Docketed.{IsDocketed}
use Rattle.desk_register.specs.Words.{IsHistory}
use Rattle.desk_entries.proofs.docketed.Docketed.take_from.Given as goal

-- the entries so far are taken, and are a history if the first were
abbrev pub invariant-loop-place : goal.invariant-loop-place
invariant-loop-place l = record {
  begun : 1 ≤ l.place;
  within : l.place ≤ length l.entries;
  is : IsDocketed l.self (batch_of (take l.place l.entries));
  history : IsHistory (batch_of (take l.from l.entries)) → IsHistory (batch_of (take l.place l.entries));
}
