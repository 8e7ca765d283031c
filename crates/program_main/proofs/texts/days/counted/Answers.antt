use Rattle.std.proofs.Common.{◌≡◌, [], ◌∷◌, None, false, eqb, lit<}
use Rattle.std.specs.List.{starts_with}
use Rattle.std.proofs.lemmas.Str.Pattern.{strip_prefix_char}
use Rattle.row_forms.proofs.EndLemmas.{starts_with-none}
use Rattle.program_main.proofs.texts.days.counted.Goals as goal

pub returns-in-None : goal.returns-in-None
returns-in-None c =
    let text = c.args.text.now in
    let plain : starts_with eqb text (43 ∷ []) ≡ false = starts_with-none text (43 ∷ []) (strip_prefix_char 43 text None c.in-None.ensures.cases (lit< tt)) in
    rw (c.before_today.ensures, plain)
