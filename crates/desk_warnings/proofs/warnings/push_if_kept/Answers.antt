use Rattle.std.proofs.Common.{◌∙◌, ◌++◌, ℕ, List, string_bytes, append_assoc, ap}
use Rattle.std.proofs.lemmas.Result.{on_ok_weaker}
use Rattle.docket_core.specs.Words.{parts_held}
use Rattle.desk_warnings.specs.Warnings.{as_said, if_made}
use Rattle.desk_warnings.proofs.warnings.push_if_kept.Goals as goal

pub returns : goal.returns
returns c = λ setup made.
    let named = c.args.cases.now.named in
    let by_docket = if_made c.args.court.now c.args.moved.now named (parts_held c.args.docket.now) c.args.today.now c.args.command.now in
    let said = as_said named c.args.today.now c.args.name.now c.args.command.now in
    on_ok_weaker c.push_as_said.result
    (λ told. told ∙ ap (λ (t : List ℕ). t ++ said) (c.in_ok-push_if_made.ensures setup made) ∙ append_assoc (string_bytes c.args.text.now) by_docket said)
    c.push_as_said.ensures
