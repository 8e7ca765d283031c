use Rattle.std.proofs.Common.{[], ◌∷◌, lit<}
use Rattle.std.proofs.lemmas.Str.Pattern.{strip_suffix_char}
use Rattle.row_forms.proofs.EndLemmas.{ends_with-none}
use Rattle.program_main.proofs.texts.days.count_of_days.Goals as goal

pub returns-in_err-strip_suffix : goal.returns-in_err-strip_suffix
returns-in_err-strip_suffix c =
    let none = rw c.in_err-strip_suffix.was at (strip_suffix_char 100 c.args.text.now c.strip_suffix.result c.strip_suffix.ensures.cases (lit< tt)) in
    rw (c.from_residual.ensures, ends_with-none c.args.text.now (100 ∷ []) none)
