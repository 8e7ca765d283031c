use Rattle.std.proofs.Common.{◌≡◌, ◌+◌, ◌++◌, drop}
use Rattle.report_sql.specs.Deadlines.{grant_row}
use Rattle.report_sql.specs.Rows.{numbered}
use Rattle.report_sql.proofs.deadlines.push_grants.Given as goal

-- the extensions so far, and those that are left, are all
abbrev pub invariant-loop-grant : goal.invariant-loop-grant
invariant-loop-grant l = record {
  place : l.place ≡ l.grant-index + 1;
  so_far : l.out ++ numbered (grant_row l.case l.deadline) l.place (drop l.grant-index l.grants) ≡ l.fn.out ++ numbered (grant_row l.case l.deadline) 1 l.grants;
}
