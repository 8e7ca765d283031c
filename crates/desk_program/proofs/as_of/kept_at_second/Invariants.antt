use Rattle.std.proofs.Common.{◌≤◌, take, drop}
use Rattle.std.specs.Prelude.{All}
use Rattle.desk_journal.specs.Words.{StampView}
use Rattle.desk_program.proofs.as_of.kept_at_second.Given as goal

-- each so far, after the first, is of that second or an earlier one
abbrev pub invariant-loop-place : goal.invariant-loop-place
invariant-loop-place l = record {
  begun : 1 ≤ l.place;
  earlier : All (λ (stamp : StampView). stamp.time ≤ l.second) (drop 1 (take l.place l.stamps));
}
