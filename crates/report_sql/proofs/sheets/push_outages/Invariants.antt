use Rattle.std.proofs.Common.{◌≡◌, ◌+◌, ◌++◌, drop}
use Rattle.report_sql.specs.Rows.{numbered}
use Rattle.report_sql.specs.Script.{outage_row}
use Rattle.report_sql.proofs.sheets.push_outages.Given as goal

-- the outages so far, and those that are left, are all
abbrev pub invariant-loop-outage : goal.invariant-loop-outage
invariant-loop-outage l = record {
  place : l.place ≡ l.outage-index + 1;
  so_far : l.out ++ numbered outage_row l.place (drop l.outage-index l.outages) ≡ l.fn.out ++ numbered outage_row 1 l.outages;
}
