use Rattle.std.proofs.Common.{[], ◌∷◌}
use Rattle.std.proofs.lemmas.Str.Pattern.{strip_suffix_char}
use Rattle.row_forms.specs.Fields.Numbers.{count_of}
use Rattle.row_forms.proofs.EndLemmas.{ends_with-none}
use Rattle.row_forms.proofs.fields.numbers.count_of.Goals as goal

pub returns-in_err-strip_suffix : goal.returns-in_err-strip_suffix
unfolding count_of
returns-in_err-strip_suffix c =
    let none = rw c.in_err-strip_suffix.was at (strip_suffix_char c.args.unit c.args.text.now c.strip_suffix.result c.strip_suffix.ensures.cases c.requires) in
    rw (c.from_residual.ensures, ends_with-none c.args.text.now (c.args.unit ∷ []) none)
