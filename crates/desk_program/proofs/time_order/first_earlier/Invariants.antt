use Rattle.std.proofs.Common.{◌≡◌, ◌≤◌, drop}
use Rattle.desk_journal.specs.Words.{batch_of}
use Rattle.desk_program.specs.TimeOrder.{earlier_in, first_earlier}
use Rattle.desk_program.proofs.time_order.first_earlier.Given as goal

-- none so far is of an earlier time than the one before it
abbrev pub invariant-loop-place : goal.invariant-loop-place
invariant-loop-place l =
    (1 ≤ l.place)
    × (l.number ≤ l.place)
    × (first_earlier l.before l.number (batch_of (drop l.place l.entries)) (drop l.place l.stamps) ≡ earlier_in (batch_of l.entries) l.stamps)
