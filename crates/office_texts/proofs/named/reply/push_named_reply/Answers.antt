use Rattle.std.proofs.Common.{◌≡◌, ◌∙◌, ◌==◌, ◌++◌, ℕ, suc, List, [], ◌∷◌, ap, length, ne_eqb, refl, sym, true, true≢false, string_bytes}
use Rattle.std.proofs.lemmas.Result.{on_ok_weaker}
use Rattle.case_numbers.specs.declared.names.NamedCase.{NamedCase}
use Rattle.office_texts.specs.Named.Named.{named_reply}
use Rattle.office_texts.proofs.NamedLemmas.PlainLemmas.{same_reply}
use Rattle.office_texts.proofs.named.reply.push_named_reply.Goals as goal

empty : (cases : List NamedCase) → (length cases == 0) ≡ true → cases ≡ []
empty [] is = refl
empty (case ∷ cases) is = absurd (true≢false (sym is ∙ ne_eqb (suc (length cases)) 0 (λ z. cc z)))

pub returns-then-is_empty : goal.returns-then-is_empty
returns-then-is_empty c =
    let court = c.args.court.now in
    let reply = c.args.reply.now in
    let none : c.args.cases.now.named ≡ [] = sym c.named.ensures.named ∙ empty c.named.result.now (sym c.is_empty.ensures ∙ c.if-is_empty.true) in
    on_ok_weaker c.push_reply.result
    (λ added. added ∙ ap (λ (l : List ℕ). string_bytes c.args.text.now ++ l) (sym (same_reply court reply) ∙ ap (λ (n : List NamedCase). named_reply court n reply) (sym none)))
    c.push_reply.ensures
