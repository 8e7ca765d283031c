use Rattle.std.proofs.Common.{◌≡◌, ◌∙◌, ℕ, List, true, sym, subst}
use Rattle.std.proofs.lemmas.Str.{IsUtf8-from_ascii}
use Rattle.std.specs.Str.Parse.{ParsesUnsigned}
use Rattle.desk_numbers.specs.Strikes.SaidText.{is_numeral}
use Rattle.desk_numbers.proofs.StrikesLemmas.NumberLemmas.{ascii_numeral, numeral_read}
use Rattle.desk_numbers.proofs.strikes.words.numeral_of.Goals as goal

pub returns-in-Ok : goal.returns-in-Ok
returns-in-Ok c =
    let text = c.args.text.now in
    let test : is_numeral text ≡ true = sym c.is_numeral.ensures ∙ c.if-not-is_numeral.false in
    c.ok.ensures.value ∙ numeral_read text c.parse.result test (subst (λ (t : List ℕ). ParsesUnsigned 32 10 t c.parse.result) c.in-Ok.ensures.cases.0 c.parse.ensures.value.0)

pub returns-in-Err : goal.returns-in-Err
returns-in-Err c = absurd (c.in-Err.ensures.cases.0 (IsUtf8-from_ascii c.args.text.now (ascii_numeral c.args.text.now (sym c.is_numeral.ensures ∙ c.if-not-is_numeral.false))))
