use Rattle.std.proofs.Common.{◌≡◌, true, arith}
use Rattle.std.proofs.lemmas.Grind.{common_steps}
use Rattle.office_texts.specs.Names.Called.{is_digits}
use Rattle.office_texts.proofs.NamesLemmas.NumberLemmas.{parsed_digits}
use Rattle.program_main.proofs.texts.numbers.number_of.Goals as goal

pub returns-then-is_digits : goal.returns-then-is_digits
returns-then-is_digits c =
    let text = c.args.text.now in
    let test : is_digits text ≡ true = grind (arith, common_steps) in
    let parsed = parsed_digits text c.parse.result test c.parse.ensures.value.0 in
    rw (c.ok.ensures.value, parsed, test)
