use Rattle.std.proofs.Common.{◌∙◌, ◌++◌, ℕ, List, string_bytes, append-nil, ap, sym}
use Rattle.docket_core.specs.Words.{parts_held}
use Rattle.desk_warnings.proofs.WarningLemmas.{none_made}
use Rattle.desk_warnings.proofs.warnings.push_if_made.Goals as goal

pub returns-in_default : goal.returns-in_default
returns-in_default c = λ setup made.
    let text = string_bytes c.args.text.now in
    let none = none_made c.args.court.now c.args.moved.now c.args.cases.now.named (parts_held c.args.docket.now) c.args.today c.args.command.now c.in_default.not-Start c.in_default.not-FileAct c.in_default.not-Extend c.in_default.not-Inaccessible in
    sym (append-nil text) ∙ ap (λ (t : List ℕ). text ++ t) (sym none)
