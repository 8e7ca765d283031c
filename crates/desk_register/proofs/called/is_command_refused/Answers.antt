use Rattle.std.proofs.Common.{◌∙◌, Option, ap, is_some}
use Rattle.docket_rows.specs.declared.refusal.Refusal.{Refusal}
use Rattle.docket_rows.specs.Words.{CourtSetup, parts_of, refusal}
use Rattle.docket_laws.proofs.CallerLemmas.{same_refusal}
use Rattle.docket_core.specs.Words.{parts_held}
use Rattle.desk_register.proofs.called.is_command_refused.Goals as goal

pub returns : goal.returns
returns c = λ setup docketed holds.
    let docket = c.args.docket.now in
    let command = c.args.command.now in
    c.is_some.ensures
    ∙ ap (λ (r : Option Refusal). is_some r)
    (c.in_ok-refusal.ensures.value ∙ ap (λ (s : CourtSetup). refusal s (parts_held docket) command) holds.setup_is ∙ same_refusal setup (parts_held docket) (parts_of docketed) command holds.stands)
