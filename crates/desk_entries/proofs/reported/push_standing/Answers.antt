use Rattle.std.proofs.Common.{◌≡◌, ◌∙◌, ◌++◌, ℕ, true, false, List, None, append-nil, ap, sym}
use Rattle.case_numbers.specs.Words.{after_name}
use Rattle.row_forms.specs.declared.numbered.NumberedRow.{NumberedRow}
use Rattle.row_forms.specs.Words.{names_of}
use Rattle.row_forms.specs.declared.line.line.Line.{Line}
use Rattle.row_forms.specs.Line.Words.{line_read}
use Rattle.desk_numbers.specs.declared.moved.Moved.{Moved}
use Rattle.desk_numbers.specs.Words.{NumbersView}
use Rattle.desk_numbers.specs.Strikes.Words.{is_struck}
use Rattle.desk_register.specs.Words.{most_clerks, next_number, note_in, run_by}
use Rattle.desk_register.proofs.CallerLemmas.{none_if, some_if}
use Rattle.desk_entries.specs.Reported.{said_standing}
use Rattle.desk_entries.proofs.ReportedLemmas.{standing_note, standing_row}
use Rattle.desk_entries.proofs.reported.push_standing.Goals as goal

pub returns-then-not-is_row : goal.returns-then-not-is_row
returns-then-not-is_row c = λ kept stands.
    let rows : List NumberedRow = c.args.rows.now.items in
    sym (ap (λ (l : List NumberedRow). rows ++ l) (standing_note c.args.under.now kept c.args.entry.now (some_if (note_in c.args.entry.now) (sym c.is_row.ensures ∙ c.if-not-is_row.true))) ∙ append-nil rows)

pub returns-then-is_struck : goal.returns-then-is_struck
returns-then-is_struck c = λ kept stands.
    let under = c.args.under.now in
    let rows : List NumberedRow = c.args.rows.now.items in
    let none : note_in c.args.entry.now ≡ None = none_if (note_in c.args.entry.now) (sym c.is_row.ensures ∙ c.if-not-is_row.false) in
    let struck : is_struck under.corrections (next_number kept) ≡ true = ap (is_struck under.corrections) (sym (c.next_number-number.ensures under kept stands)) ∙ sym c.is_struck.ensures ∙ c.if-is_struck.true in
    sym (ap (λ (l : List NumberedRow). rows ++ l) (standing_row under kept c.args.entry.now true none struck) ∙ append-nil rows)

pub returns : goal.returns
returns c = λ kept stands.
    let under = c.args.under.now in
    let entry = c.args.entry.now in
    let rows : List NumberedRow = c.args.rows.now.items in
    let said = c.in_ok-said.said in
    let none : note_in entry ≡ None = none_if (note_in entry) (sym c.is_row.ensures ∙ c.if-not-is_row.false) in
    let live : is_struck under.corrections (next_number kept) ≡ false = ap (is_struck under.corrections) (sym (c.next_number-number.ensures under kept stands)) ∙ sym c.is_struck.ensures ∙ c.if-is_struck.false in
    let moved : c.moved-apart.result.now ≡ (run_by under kept).numbers.moved = c.moved-apart.ensures ∙ ap (λ (n : NumbersView). n.moved) (c.numbers.ensures under kept stands) in
    let read : said ≡ line_read most_clerks (names_of under.court) (after_name entry) = c.in_ok-said.ensures.said ∙ ap (λ (t : List ℕ). line_read most_clerks (names_of under.court) t) c.after_name.ensures in
    c.in_ok-push_said.ensures
    ∙ ap (λ (m : List Moved). rows ++ said_standing m c.next_number-number.result said) moved
    ∙ ap (λ (n : ℕ). rows ++ said_standing (run_by under kept).numbers.moved n said) (c.next_number-number.ensures under kept stands)
    ∙ ap (λ (l : Line). rows ++ said_standing (run_by under kept).numbers.moved (next_number kept) l) read
    ∙ sym (ap (λ (l : List NumberedRow). rows ++ l) (standing_row under kept entry false none live))
