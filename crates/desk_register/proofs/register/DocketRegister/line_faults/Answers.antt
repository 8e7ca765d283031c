use Rattle.std.proofs.Common.{◌≡◌, ◌+◌, ◌≤◌, ◌++◌, ℕ, List, [], length, map, subst, sym}
use Rattle.row_forms.specs.Words.{names_of}
use Rattle.row_forms.specs.Line.Words.{line_read}
use Rattle.desk_session.specs.Words.{numbered_from, numbered_lines, unmarked, unmarked_lines}
use Rattle.desk_register.specs.Entries.{most_clerks}
use Rattle.desk_register.specs.LineFaults.{CountsAs, fault_as, fault_in, faults_of, left_before, read_before}
use Rattle.desk_register.specs.Rows.{too_many_at, within}
use Rattle.desk_register.proofs.LineFaultLemmas.{faults_all, faults_more, number_within}
use Rattle.desk_register.proofs.register.DocketRegister.line_faults.Goals as goal

pub loop-split-preserved : goal.loop-split-preserved
loop-split-preserved c = (
  subst (λ (n : ℕ). n + length c.in-Some.split.rest.now ≤ length c.args.input.now + 1) (sym c.number_after-number.ensures)
      (number_within c.loop-split.number c.loop-split.rest.now c.in-Some.split.line.now c.in-Some.split.end c.in-Some.split.rest.now (length c.args.input.now + 1) c.in-Some.ensures c.loop-split.invariant.0),
  λ kept stands.
      let (then, count, so_far) = c.loop-split.invariant.1 kept stands in
      let under = c.args.under.now in
      let marked = c.args.marked in
      let line = c.in-Some.split.line.now in
      let read = unmarked marked line in
      let all = faults_of under kept (unmarked_lines marked (numbered_lines c.args.input.now)) in
      let reads : c.unmarked.result.now ≡ read = c.unmarked.ensures in
      let found = map fault_in c.loop-split.reading.faults.items in
      let found_then = map fault_in c.read.new.self.faults.items in (
        then ++ left_before under then read,
        subst (λ (l : List ℕ). CountsAs under (then ++ left_before under then l) c.read.new.self.count c.read.new.self.cases) reads (c.in_ok-read.ensures.counts then count),
        subst (λ (n : ℕ). found_then ++ faults_of under (then ++ left_before under then read) (unmarked_lines marked (numbered_from n [] c.in-Some.split.rest.now)) ≡ all) (sym c.number_after-number.ensures)
            (faults_more under marked then c.loop-split.number c.loop-split.rest.now line c.in-Some.split.end c.in-Some.split.rest.now found found_then all c.in-Some.ensures so_far
            (subst (λ (l : List ℕ). found_then ≡ found ++ fault_as c.loop-split.number l (too_many_at under then l) (within then (line_read most_clerks (names_of under.court) (read_before under then l).text))) reads (c.in_ok-read.ensures.faults then count))),
      ),
)

pub returns : goal.returns
returns c = λ kept stands.
    let (then, count, so_far) = c.loop-split.invariant.1 kept stands in
    faults_all c.args.under.now c.args.marked then c.loop-split.number c.loop-split.rest.now (map fault_in c.loop-split.reading.faults.items) (faults_of c.args.under.now kept (unmarked_lines c.args.marked (numbered_lines c.args.input.now))) c.in_default.ensures so_far
