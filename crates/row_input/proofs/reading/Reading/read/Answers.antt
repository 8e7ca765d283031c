use Rattle.std.proofs.Common.{◌≡◌, ◌∙◌, ◌++◌, ◌∷◌, [], ℕ, List, ap, append_assoc, map}
use Rattle.std.specs.Prelude.{option_map}
use Rattle.std.specs.List.{flat_map}
use Rattle.csv.specs.Records.{fields_of}
use Rattle.desk_journal.specs.Words.{batch_of}
use Rattle.desk_session.specs.Words.{mark_of}
use Rattle.row_forms.specs.Words.{names_of}
use Rattle.row_input.specs.LineRows.{RowsOfLine, rows_said}
use Rattle.row_input.specs.Reading.{faulty_as, faulty_in, header_after, in_place, line_as, row_of}
use Rattle.row_input.specs.Triggers.{rows_of_line}
use Rattle.row_input.proofs.reading.Reading.read.Goals as goal

pub returns-clause-rows : goal.returns-clause-rows
returns-clause-rows c =
    let names = names_of c.args.court.now in
    let own = c.args.court.now.periods.triggers in
    let header = option_map fields_of c.args.self.now.header in
    let line = c.args.line.now in
    let before = c.args.self.now.rows.items in
    let said : rows_said c.in_ok-said.said ≡ line_as c.args.clerks names own c.args.order c.args.marked header line =
    c.in_ok-said.ensures ∙ ap (rows_of_line c.args.clerks names own c.args.order header) c.unmarked-text.ensures in
    ap (λ rows. rows.items) c.go_on_under.ensures.rows
    ∙ c.in_ok-push_lines.ensures
    ∙ ap (λ (m : List ℕ). before ++ flat_map (row_of m) (batch_of c.deref.result.now)) c.mark_of-mark.ensures
    ∙ ap (λ rows. before ++ flat_map (row_of (mark_of c.args.marked line)) (batch_of rows)) c.deref.ensures.value
    ∙ ap (λ (l : RowsOfLine). before ++ flat_map (row_of (mark_of c.args.marked line)) l.rows) said

pub returns-clause-placed : goal.returns-clause-placed
returns-clause-placed c =
    let names = names_of c.args.court.now in
    let own = c.args.court.now.periods.triggers in
    let header = option_map fields_of c.args.self.now.header in
    let line = c.args.line.now in
    let before = c.args.self.now.placed.items in
    let joined = c.args.joined in
    let said : rows_said c.in_ok-said.said ≡ line_as c.args.clerks names own c.args.order c.args.marked header line =
    c.in_ok-said.ensures ∙ ap (rows_of_line c.args.clerks names own c.args.order header) c.unmarked-text.ensures in
    let placed =
    c.in_ok-push_placed.ensures
    ∙ ap (λ (m : List ℕ). before ++ in_place joined m (batch_of c.deref-2.result.now)) c.mark_of-mark.ensures
    ∙ ap (λ rows. before ++ in_place joined (mark_of c.args.marked line) (batch_of rows)) c.deref-2.ensures.value
    ∙ ap (λ (l : RowsOfLine). before ++ in_place joined (mark_of c.args.marked line) l.rows) said in
    ap (λ placed. placed.items) c.go_on_under.ensures.placed
    ∙ c.in_ok-push.ensures.items
    ∙ ap (λ (l : List ℕ). l ++ c.args.end ∷ []) placed
    ∙ append_assoc before (in_place joined (mark_of c.args.marked line) (line_as c.args.clerks names own c.args.order c.args.marked header line).rows) (c.args.end ∷ [])

pub returns-clause-faulty : goal.returns-clause-faulty
returns-clause-faulty c =
    let names = names_of c.args.court.now in
    let own = c.args.court.now.periods.triggers in
    let header = option_map fields_of c.args.self.now.header in
    let line = c.args.line.now in
    let before = map faulty_in c.args.self.now.faulty.items in
    let said : rows_said c.in_ok-said.said ≡ line_as c.args.clerks names own c.args.order c.args.marked header line =
    c.in_ok-said.ensures ∙ ap (rows_of_line c.args.clerks names own c.args.order header) c.unmarked-text.ensures in
    ap (λ faulty. map faulty_in faulty.items) c.go_on_under.ensures.faulty
    ∙ c.in_ok-push_faulty.ensures
    ∙ ap (λ (m : List ℕ). before ++ faulty_as c.args.number line m (rows_said c.in_ok-said.said).faults) c.mark_of-mark.ensures
    ∙ ap (λ (l : RowsOfLine). before ++ faulty_as c.args.number line (mark_of c.args.marked line) l.faults) said

pub returns-clause-header : goal.returns-clause-header
returns-clause-header c =
    let names = names_of c.args.court.now in
    let own = c.args.court.now.periods.triggers in
    let header = option_map fields_of c.args.self.now.header in
    let line = c.args.line.now in
    let said : rows_said c.in_ok-said.said ≡ line_as c.args.clerks names own c.args.order c.args.marked header line =
    c.in_ok-said.ensures ∙ ap (rows_of_line c.args.clerks names own c.args.order header) c.unmarked-text.ensures in
    c.go_on_under.ensures.header ∙ ap (λ (l : RowsOfLine). header_after header l.header) said
