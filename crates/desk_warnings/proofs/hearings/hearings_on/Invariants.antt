use Rattle.std.proofs.Common.{◌≡◌, ◌-◌, ◌≤◌, ◌++◌, length, string_bytes}
use Rattle.docket_rows.specs.Words.{setup_of}
use Rattle.docket_core.specs.Words.{parts_held}
use Rattle.desk_warnings.proofs.HearingLemmas.{hearings_from}
use Rattle.desk_warnings.proofs.hearings.hearings_on.Given as goal

-- what was added, and what is left, are all of it
abbrev pub invariant-loop-judge : goal.invariant-loop-judge
invariant-loop-judge l = record {
  within : l.judge ≤ length l.court.judges;
  so_far : l.docket.setup ≡ setup_of l.court → string_bytes l.text ++ hearings_from l.court l.moved l.cases.named (parts_held l.docket) l.day l.judge (length l.court.judges - l.judge) ≡ hearings_from l.court l.moved l.cases.named (parts_held l.docket) l.day 0 (length l.court.judges);
}
