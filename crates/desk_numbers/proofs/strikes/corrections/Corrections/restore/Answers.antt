use Rattle.std.proofs.Common.{◌∙◌, ℕ, List, ap, nat_eq, not, rules}
use Rattle.std.proofs.lemmas.Fn.{filter_same}
use Rattle.desk_numbers.specs.Strikes.Corrections.{CorrectionsView, struck_without}
use Rattle.desk_numbers.proofs.strikes.corrections.Corrections.restore.Goals as goal

pub returns : goal.returns
returns c =
    let row = c.args.row in
    let view : List ℕ → CorrectionsView = λ struck. record { struck = struck; kept = c.self.inside.kept } in
    let without : CorrectionsView → CorrectionsView = λ v. record { struck = struck_without v.struck row; kept = v.kept } in
    ap view (filter_same _ (λ other. not (nat_eq other row)) _ (λ other b f call. search rules) _ _ c.retain.ensures.filtered) ∙ ap without c.self.view_is
