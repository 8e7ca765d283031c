use Rattle.std.proofs.Common.{◌∙◌, ◌+◌, ap, drop, sym}
use Rattle.desk_numbers.specs.Said.{with_all}
use Rattle.desk_numbers.proofs.SaidLemmas.{said_on, said_past}
use Rattle.desk_numbers.proofs.said.set_all.Goals as goal

pub said-preserved : goal.said-preserved
said-preserved c =
    let said = c.args.said.now in
    let place = c.said.one-index in
    ap (λ l. with_all l (drop (place + 1) said)) c.set_one.ensures ∙ sym (said_on c.said.kept said place _ c.said-test.true) ∙ c.said.invariant

pub returns : goal.returns
returns c = sym (said_past c.said.kept c.args.said.now c.said.one-index c.said-test.false) ∙ c.said.invariant
