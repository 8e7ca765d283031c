use Rattle.std.proofs.Common.{◌≡◌, ◌∙◌, [], ◌∷◌, Some, None, false, eqb, lit<, sym}
use Rattle.std.specs.List.{starts_with}
use Rattle.std.proofs.lemmas.Str.Pattern.{strip_prefix_char}
use Rattle.court_clock.specs.Words.{day_of_text}
use Rattle.row_forms.specs.Fields.Grants.{grant_of}
use Rattle.row_forms.proofs.EndLemmas.{starts_with-none}
use Rattle.row_forms.proofs.fields.grants.grant_of.Goals as goal

pub returns-in_err-from_text-in-None : goal.returns-in_err-from_text-in-None
unfolding grant_of
returns-in_err-from_text-in-None c =
    let text = c.args.text.now in
    let plain : starts_with eqb text (43 ∷ []) ≡ false = starts_with-none text (43 ∷ []) (strip_prefix_char 43 text None c.in-None.ensures.cases (lit< tt)) in
    let none : day_of_text text ≡ None = sym c.from_text.ensures ∙ c.in_err-from_text-in-None.was in
    rw (c.from_residual.ensures, plain, none)

pub returns-in_ok-from_text-in-None : goal.returns-in_ok-from_text-in-None
unfolding grant_of
returns-in_ok-from_text-in-None c =
    let text = c.args.text.now in
    let plain : starts_with eqb text (43 ∷ []) ≡ false = starts_with-none text (43 ∷ []) (strip_prefix_char 43 text None c.in-None.ensures.cases (lit< tt)) in
    let day : day_of_text text ≡ Some c.in_ok-from_text-in-None.field-0 = sym c.from_text.ensures ∙ c.in_ok-from_text-in-None.was in
    rw (plain, day)
