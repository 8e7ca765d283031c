-- The rows that are collected are those of the line.
use Rattle.std.proofs.Common.{◌≡◌, ◌==◌, rules, tests}
use Rattle.std.specs.List.{slice_split}
use Rattle.std.proofs.lemmas.Iterator.Splits.{YieldsList-from_slice_split}
use Rattle.desk_warnings.proofs.RowLemmas.{rows_collected}
use Rattle.desk_warnings.proofs.rows.line_rows.Goals as goal

pub returns : goal.returns
returns c =
    rows_collected c.collect.result c.collect.ensures.ran
    (YieldsList-from_slice_split _ (λ byte. byte == 30) c.args.line.now c.split.ensures.rest c.split.ensures.done c.split.ensures.closure (λ x b q k. search (rules, tests)))
