use Rattle.std.proofs.Common.{◌≡◌, true, arith}
use Rattle.std.proofs.lemmas.Grind.{common_steps}
use Rattle.row_forms.specs.Fields.Numbers.{is_number, number_of}
use Rattle.row_forms.proofs.NumberLemmas.{nine_digits, parsed_number}
use Rattle.row_forms.proofs.fields.numbers.number_of.Goals as goal

pub returns-then-is_number-clause-value : goal.returns-then-is_number-clause-value
unfolding number_of
returns-then-is_number-clause-value c =
    let text = c.args.text.now in
    let test : is_number text ≡ true = grind (arith, common_steps) in
    let parsed = parsed_number text c.parse.result test c.parse.ensures.value.0 in
    rw (c.ok.ensures.value, parsed, test)

pub returns-then-is_number-clause-nine_digits : goal.returns-then-is_number-clause-nine_digits
returns-then-is_number-clause-nine_digits c =
    let text = c.args.text.now in
    let test : is_number text ≡ true = grind (arith, common_steps) in
    let parsed = parsed_number text c.parse.result test c.parse.ensures.value.0 in
    rw (c.ok.ensures.value, parsed) (nine_digits text test)
