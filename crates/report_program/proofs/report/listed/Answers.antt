use Rattle.std.proofs.Common.{◌≡◌, rules}
use Rattle.report_program.specs.Calendar.{changes_by, docketed_by, lost_of}
use Rattle.report_program.proofs.report.listed.Goals as goal

pub returns : goal.returns
returns c =
    let court = c.args.court.now in
    let rows = c.args.rows.now in
    let made : c.docket_after.new.came.changes.items ≡ changes_by court c.args.past.now rows = search rules in
    let lost : c.docket_after.new.came.lost.items ≡ lost_of court c.args.past.now rows = search rules in
    rw (made, lost, c.corrections.ensures) at (c.listing_of.ensures (docketed_by court rows) c.in_ok-docket.ensures.docket)
