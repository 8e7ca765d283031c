use Rattle.std.proofs.Common.{◌≡◌, ◌++◌, ◌∙◌, ℕ, List, OnOk, ap, string_bytes, subst}
use Rattle.docket_rows.specs.Words.{Parts, parts_of}
use Rattle.docket_core.specs.Words.{parts_held}
use Rattle.office_texts.specs.Named.Words.{motion_called}
use Rattle.reason_refusals.specs.Commands.Words.{why_refused}
use Rattle.reason_refusals.proofs.CommandsLemmas.CallerLemmas.{parts_same}
use Rattle.report_texts.specs.Words.{LabelsView}
use Rattle.report_memo.specs.Notes.{motion_refused}
use Rattle.report_memo.proofs.notes.push_refused.Goals as goal

pub returns : goal.returns
returns c docketed holds =
    let written : List ℕ = c.as_str.result.now in
    let cases : c.labels.inside.cases.now.named ≡ c.args.labels.now.cases = ap (λ (l : LabelsView). l.cases) c.labels.view_is in
    let moved : c.labels.inside.moved.now ≡ c.args.labels.now.moved = ap (λ (l : LabelsView). l.moved) c.labels.view_is in
    let called : written ≡ motion_called c.args.labels.now.cases (motion_refused c.args.labels.now.moved c.args.command.now c.args.refusal.now) =
    c.as_str.ensures.value ∙ rw cases at c.in_ok-push_motion_called.ensures ∙ ap (λ (t : List ℕ). t ++ motion_called c.args.labels.now.cases c.motion_refused.result) c.new-called.ensures.bytes ∙ ap (motion_called c.args.labels.now.cases) (rw moved at c.motion_refused.ensures) in
    subst (λ (t : List ℕ). OnOk c.push_why_refused.result (string_bytes c.push_why_refused.new.text ≡ string_bytes c.args.text.now ++ why_refused c.args.court.now (parts_of docketed) c.args.command.now t c.args.refusal.now))
    called
    (subst (λ (p : Parts). OnOk c.push_why_refused.result (string_bytes c.push_why_refused.new.text ≡ string_bytes c.args.text.now ++ why_refused c.args.court.now p c.args.command.now written c.args.refusal.now))
    (parts_same (parts_held c.args.docket.now) (parts_of docketed) holds.stands)
    (c.push_why_refused.ensures holds.setup_is))
