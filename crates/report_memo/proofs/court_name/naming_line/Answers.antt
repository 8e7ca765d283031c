-- The first of the lines that begins so.
use Rattle.std.proofs.Common.{◌==◌, nat_eq, rules, tests}
use Rattle.std.specs.Prelude.{codes}
use Rattle.std.specs.List.{starts_with}
use Rattle.std.proofs.lemmas.Iterator.Search.{find_from_yields_List}
use Rattle.std.proofs.lemmas.Iterator.Splits.{YieldsList-from_slice_split}
use Rattle.report_memo.proofs.court_name.naming_line.Goals as goal

pub returns : goal.returns
returns c =
    find_from_yields_List (λ line. starts_with nat_eq line (codes "# The court's file of the ")) c.find.new.self _ c.find.result c.find.ensures.ran
    (YieldsList-from_slice_split _ (λ byte. byte == 10) c.args.file.now c.split.ensures.rest c.split.ensures.done c.split.ensures.closure (λ x b q k. search (rules, tests)))
    (λ x b q k. search (rules, tests))
