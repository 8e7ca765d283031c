use Rattle.std.proofs.Common.{◌≡◌, ◌∙◌, [], ◌∷◌, None, Some, false, eqb, lit<, sym}
use Rattle.std.specs.List.{starts_with}
use Rattle.std.proofs.lemmas.Str.Pattern.{strip_prefix_char}
use Rattle.court_clock.specs.Words.{day_of_text}
use Rattle.row_forms.proofs.EndLemmas.{starts_with-none}
use Rattle.program_main.proofs.texts.days.before_today.Goals as goal

pub returns-in_err-from_text-in-None : goal.returns-in_err-from_text-in-None
returns-in_err-from_text-in-None c =
    let text = c.args.text.now in
    let plain : starts_with eqb text (45 ∷ []) ≡ false = starts_with-none text (45 ∷ []) (strip_prefix_char 45 text None c.in-None.ensures.cases (lit< tt)) in
    let none : day_of_text text ≡ None = sym c.from_text.ensures ∙ c.in_err-from_text-in-None.was in
    rw (c.from_residual-in_err-from_text-in-None.ensures, plain, none)

pub returns-in_ok-from_text-in-None : goal.returns-in_ok-from_text-in-None
returns-in_ok-from_text-in-None c =
    let text = c.args.text.now in
    let plain : starts_with eqb text (45 ∷ []) ≡ false = starts_with-none text (45 ∷ []) (strip_prefix_char 45 text None c.in-None.ensures.cases (lit< tt)) in
    let day : day_of_text text ≡ Some c.in_ok-from_text-in-None.field-0 = sym c.from_text.ensures ∙ c.in_ok-from_text-in-None.was in
    rw (plain, day)
