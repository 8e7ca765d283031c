use Rattle.std.proofs.Common.{◌≡◌, ◌∙◌, ◌-◌, ◌++◌, [], ℕ, List, ap, length, map}
use Rattle.docket_shifts.specs.Words.{shifts}
use Rattle.desk_journal.specs.Words.{batch_of}
use Rattle.desk_entries.specs.Words.{Change, change_in}
use Rattle.desk_program.specs.Changed.{ChangedRowView, changes_between}
use Rattle.desk_program.specs.ChangedText.{changes_text}
use Rattle.desk_program.specs.Correction.{head_text, shown_at}
use Rattle.desk_program.specs.Inside.Changed.{walked}
use Rattle.desk_program.specs.Leave.{asking_of}
use Rattle.desk_program.proofs.ChangedLemmas.{changed_between}
use Rattle.desk_program.proofs.TextLemmas.{three_more}
use Rattle.desk_program.proofs.correction.listed.Goals as goal

pub returns-clause-text : goal.returns-clause-text
returns-clause-text c = λ now_is after_is.
    let now = c.args.now.now in
    let after = c.args.after.now in
    let kept : List (List ℕ) = batch_of c.args.entries.now in
    let had : List Change = map change_in c.deref.result.now in
    let has : List Change = map change_in c.deref-2.result.now in
    let rows : walked after.corrections (c.next_number.result - 1) 1 had has ≡ changes_between now after kept =
    changed_between now after kept c.next_number.result had has (c.next_number.ensures after kept after_is.stands) (ap (map change_in) c.deref.ensures.value ∙ now_is.changes) (ap (map change_in) c.deref-2.ensures.value ∙ after_is.changes) in
    three_more [] (head_text kept c.args.kind) (changes_text (changes_between now after kept)) (shifts (shown_at now kept) (shown_at after kept))
    c.push_head.new.text.items c.push_changed.new.text.items c.extend_from_slice.new.self.items
    (c.in_ok-push_head.ensures ∙ ap (λ (l : List ℕ). l ++ head_text kept c.args.kind) c.new-text.ensures.items)
    (c.in_ok-count.ensures.text ∙ ap (λ (l : List ChangedRowView). c.push_head.new.text.items ++ changes_text l) rows)
    (c.in_ok-extend_from_slice.ensures.items ∙ ap (λ (l : List ℕ). c.push_changed.new.text.items ++ l) (c.as_bytes.ensures.value ∙ c.in_ok-moved.ensures kept now_is.stands after_is.stands))

pub returns-clause-count : goal.returns-clause-count
returns-clause-count c = λ now_is after_is.
    let now = c.args.now.now in
    let after = c.args.after.now in
    let kept : List (List ℕ) = batch_of c.args.entries.now in
    c.in_ok-count.ensures.count
    ∙ ap (λ (l : List ChangedRowView). length (asking_of now.corrections l))
    (changed_between now after kept c.next_number.result (map change_in c.deref.result.now) (map change_in c.deref-2.result.now) (c.next_number.ensures after kept after_is.stands) (ap (map change_in) c.deref.ensures.value ∙ now_is.changes) (ap (map change_in) c.deref-2.ensures.value ∙ after_is.changes))
