use Rattle.std.proofs.Common.{◌≡◌, ◌≤◌, ◌+◌, ◌++◌, ℕ, List, length, take}
use Rattle.desk_journal.specs.Words.{batch_of}
use Rattle.desk_register.specs.Words.{IsHistory, entries_taken}
use Rattle.desk_entries.specs.Docketed.{IsDocketed}
use Rattle.desk_entries.proofs.docketed.Docketed.take_rows.Given as goal

-- the entries so far are taken, and are a history with those before if these were
abbrev pub invariant-loop-place : goal.invariant-loop-place
invariant-loop-place l = record {
  within : l.place ≤ length l.more;
  count : entries_taken l.self.register ≡ entries_taken l.fn.self.register + l.place;
  is : (before : List (List ℕ)) → IsDocketed l.fn.self before → IsDocketed l.self (before ++ batch_of (take l.place l.more));
  history : (before : List (List ℕ)) → IsDocketed l.fn.self before → IsHistory before → IsHistory (before ++ batch_of (take l.place l.more));
}
