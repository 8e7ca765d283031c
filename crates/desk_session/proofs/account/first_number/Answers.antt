use Rattle.std.proofs.Common.{◌==◌, length, rules, tests}
use Rattle.std.specs.Prelude.{not}
use Rattle.std.specs.Char.{is_ascii_digit}
use Rattle.std.proofs.lemmas.Iterator.Search.{find_from_yields_List}
use Rattle.std.proofs.lemmas.Iterator.Splits.{YieldsList-from_slice_split}
use Rattle.desk_session.proofs.account.first_number.Goals as goal

pub returns : goal.returns
returns c =
    find_from_yields_List (λ part. not (length part == 0)) _ _ c.find.result c.find.ensures.ran
    (YieldsList-from_slice_split _ (λ byte. not (is_ascii_digit byte)) c.args.text.now c.split.ensures.rest c.split.ensures.done c.split.ensures.closure (λ x b q k. search (rules, tests)))
    (λ x b q k. search (rules, tests))
