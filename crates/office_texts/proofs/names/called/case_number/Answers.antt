use Rattle.std.proofs.Common.{◌≡◌, true, arith}
use Rattle.std.proofs.lemmas.Grind.{common_steps}
use Rattle.office_texts.specs.Names.Called.{is_digits}
use Rattle.office_texts.proofs.NamesLemmas.NumberLemmas.{parsed_digits}
use Rattle.office_texts.proofs.names.called.case_number.Goals as goal

-- a text of so few digits is parsed
pub returns-in-Err : goal.returns-in-Err
returns-in-Err c =
    let text = c.args.text.now in
    let test : is_digits text ≡ true = grind (arith, common_steps) in
    let parsed = parsed_digits text c.parse.result test c.parse.ensures.value.0 in
    absurd (cc (parsed, c.in-Err.is))
