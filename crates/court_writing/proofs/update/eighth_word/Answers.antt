use Rattle.std.proofs.Common.{◌==◌, rules, tests}
use Rattle.std.proofs.lemmas.Iterator.Consumers.{nth_from_yields_List}
use Rattle.std.proofs.lemmas.Iterator.Splits.{YieldsList-from_slice_split}
use Rattle.court_writing.proofs.update.eighth_word.Goals as goal

pub returns : goal.returns
returns c =
    nth_from_yields_List c.nth.result c.nth.new.self 7 c.nth.ensures.ran
    (YieldsList-from_slice_split _ (λ byte. byte == 32) c.args.line.now c.split.ensures.rest c.split.ensures.done c.split.ensures.closure (λ x b q k. search (rules, tests)))
