-- The lines that are collected are those of the text.
use Rattle.std.proofs.Common.{◌≡◌, ◌==◌, rules, tests}
use Rattle.std.specs.List.{slice_split}
use Rattle.std.proofs.lemmas.Iterator.Splits.{YieldsList-from_slice_split}
use Rattle.court_writing.specs.Own.{texts}
use Rattle.court_writing.proofs.NamesLemmas.{views_from_collect}
use Rattle.court_writing.proofs.names.names_in.Goals as goal

pub returns : goal.returns
returns c =
    let lines : texts c.in_ok-lines.lines.items ≡ slice_split (λ byte. byte == 10) c.args.text.now =
    rw c.in_ok-lines.was at (views_from_collect c.collect.result c.collect.ensures.ran
    (YieldsList-from_slice_split _ (λ byte. byte == 10) c.args.text.now c.split.ensures.rest c.split.ensures.done c.split.ensures.closure (λ x b q k. search (rules, tests)))) in
    rw (c.deref.ensures.value, lines) at c.names_of.ensures
