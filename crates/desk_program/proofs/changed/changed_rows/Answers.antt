use Rattle.std.proofs.Common.{◌≡◌, ◌∙◌, ◌+◌, ◌-◌, ◌++◌, List, map, ap, append_assoc, append-nil, arith, sym}
use Rattle.desk_entries.specs.Words.{Change, change_in}
use Rattle.desk_numbers.specs.Strikes.Words.{is_struck}
use Rattle.desk_program.specs.Changed.{ChangedRowView, changed_row}
use Rattle.desk_program.specs.Inside.Changed.{first_of, rest_of, walked}
use Rattle.desk_program.proofs.ChangedLemmas.{walked_more}
use Rattle.desk_program.proofs.changed.changed_rows.Goals as goal

pub loop-number-preserved : goal.loop-number-preserved
loop-number-preserved c =
    let corrections = c.args.corrections.now in
    let number = c.loop-number.number in
    let next = c.args.next in
    let had : List Change = map change_in c.loop-number.had.now in
    let has : List Change = map change_in c.loop-number.has.now in
    let row : List ChangedRowView = changed_row (is_struck corrections number) (first_of had number) (first_of has number) in
    record {
      begun = omega arith;
      so_far =
          ap (λ (l : List ChangedRowView). l ++ walked corrections (next - (number + 1)) (number + 1) (map change_in c.rest_of-had.result.now) (map change_in c.rest_of-has.result.now)) c.in_ok-push_changed.ensures
          ∙ append_assoc c.loop-number.rows.items row _
          ∙ ap (λ (l : List Change). c.loop-number.rows.items ++ (row ++ walked corrections (next - (number + 1)) (number + 1) l (map change_in c.rest_of-has.result.now))) c.rest_of-had.ensures
          ∙ ap (λ (l : List Change). c.loop-number.rows.items ++ (row ++ walked corrections (next - (number + 1)) (number + 1) (rest_of had number) l)) c.rest_of-has.ensures
          ∙ ap (λ (l : List ChangedRowView). c.loop-number.rows.items ++ l) (sym (walked_more corrections number next had has c.loop-number-test.true))
          ∙ c.loop-number.invariant.so_far;
    }

pub returns : goal.returns
unfolding walked
returns c =
    let none : c.args.next - c.loop-number.number ≡ 0 = omega (arith, c.loop-number-test.false) in
    sym (append-nil _) ∙ rw none at c.loop-number.invariant.so_far
