use Rattle.std.proofs.Common.{◌≡◌, ◌∙◌, ap, option_copied}
use Rattle.docket_rows.specs.Words.{Parts, parts_of}
use Rattle.docket_core.specs.Words.{parts_held}
use Rattle.reason_refusals.specs.Words.{deadline_asked}
use Rattle.reason_refusals.specs.Commands.Words.{deadline_at}
use Rattle.reason_refusals.proofs.CommandsLemmas.CallerLemmas.{parts_same}
use Rattle.report_memo.proofs.notes.push_extended.Goals as goal

pub returns : goal.returns
returns c docketed holds =
    let asked : c.deadline_asked.result ≡ deadline_asked c.args.command.now = c.deadline_asked.ensures in
    let row : option_copied c.deadline_at-row.result ≡ deadline_at (parts_of docketed) (deadline_asked c.args.command.now) = rw asked at c.deadline_at-row.ensures ∙ ap (λ (p : Parts). deadline_at p (deadline_asked c.args.command.now)) (parts_same (parts_held c.args.docket.now) (parts_of docketed) holds.stands) in
    rw row at (rw c.request_asked.ensures at c.push_notes_of_request.ensures)
