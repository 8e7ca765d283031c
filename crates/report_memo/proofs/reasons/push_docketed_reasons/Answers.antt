use Rattle.std.proofs.Common.{◌≡◌, ◌∙◌, Some, None, string_bytes, sym}
use Rattle.docket_rows.specs.Words.{setup_of, deadline_in, parts_of}
use Rattle.report_memo.proofs.DocketLemmas.{deadline_held}
use Rattle.report_memo.proofs.TextLemmas.{adds_none}
use Rattle.report_memo.proofs.reasons.push_docketed_reasons.Goals as goal

pub returns-in-Some : goal.returns-in-Some
returns-in-Some c docketed holds read =
    let setup = setup_of c.args.court.now in
    let found : deadline_in (parts_of docketed) c.args.case c.args.place ≡ Some c.in-Some.row.now =
    sym (deadline_held setup c.args.docket.now docketed holds c.args.case c.args.place) ∙ sym c.in-Some.ensures in
    rw found (rw read at (rw c.row.ensures.value at c.push_deadline_reasons.ensures))

pub returns-in-None : goal.returns-in-None
returns-in-None c docketed holds read =
    let setup = setup_of c.args.court.now in
    let none : deadline_in (parts_of docketed) c.args.case c.args.place ≡ None =
    sym (deadline_held setup c.args.docket.now docketed holds c.args.case c.args.place) ∙ sym c.in-None.ensures in
    rw none (adds_none (string_bytes c.args.text.now))
