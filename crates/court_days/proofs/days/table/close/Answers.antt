use Rattle.std.proofs.Common.{get_or-set_other, sym, ◌∙◌, arith}
use Rattle.std.proofs.lemmas.List.{length-set}
use Rattle.court_days.proofs.DaysLemmas.MendLemmas.{mend_begins, mend_begins_last, mend_goes_on, mend_goes_on_last, mend_ends}
use Rattle.court_days.proofs.days.table.close.Goals as goal

pub run-init : goal.run-init
run-init c = record {
  within = omega (arith, c.requires, length-set c.args.entries.now c.args.at c.next_entry-last.result);
  behind = omega arith;
  length_same = length-set c.args.entries.now c.args.at c.next_entry-last.result;
  made = λ test made k below. rw c.next_entry-last.ensures (mend_begins test c.args.entries.now c.args.at c.last_before.result k made c.requires (c.last_before.ensures test made) below);
  kept = λ k behind. get_or-set_other c.args.entries.now c.args.at k c.next_entry-last.result 0 (λ same. omega (arith, same, behind));
  last = λ test made. rw c.next_entry-last.ensures (mend_begins_last test c.args.at c.last_before.result (c.last_before.ensures test made));
}

pub run-preserved : goal.run-preserved
run-preserved c =
    let i = c.run.invariant in
    record {
      within = omega (arith, c.run-test.true, length-set c.run.entries c.run.place c.next_entry-last-in-run.result);
      behind = omega (arith, i.behind);
      length_same = length-set c.run.entries c.run.place c.next_entry-last-in-run.result ∙ i.length_same;
      made = λ test made k below. rw c.next_entry-last-in-run.ensures (mend_goes_on test c.args.entries.now c.run.entries c.args.at c.run.place c.run.last k made (omega (arith, c.run-test.true, i.length_same)) i.length_same i.behind (λ none. c.if-entries-place-ne0.true (i.kept c.run.place (omega arith) ∙ none)) (i.last test made) (i.made test made) below);
      kept = λ k behind. get_or-set_other c.run.entries c.run.place k c.next_entry-last-in-run.result 0 (λ same. omega (arith, same, behind)) ∙ i.kept k (omega (arith, behind));
      last = λ test made. rw c.next_entry-last-in-run.ensures (mend_goes_on_last test c.args.entries.now c.args.at c.run.place c.run.last made (omega (arith, c.run-test.true, i.length_same)) i.behind (λ none. c.if-entries-place-ne0.true (i.kept c.run.place (omega arith) ∙ none)) (i.last test made));
    }

pub returns-else-entries-place-ne0-clause-mended : goal.returns-else-entries-place-ne0-clause-mended
returns-else-entries-place-ne0-clause-mended c =
    let i = c.run.invariant in
    λ test made. mend_ends test c.args.entries.now c.run.entries c.args.at c.run.place made (omega (arith, c.run-test.true, i.length_same)) i.length_same i.behind (sym (i.kept c.run.place (omega arith)) ∙ c.if-entries-place-ne0.false) (i.made test made) i.kept
