-- The answers to lines one by one, and those of a run of their rows together.
use Rattle.std.proofs.Common.{◌≡◌, ◌∙◌, ◌+◌, ◌<◌, ◌≤◌, ℕ, true, false, ltb, Option, Some, None, List, [], ◌∷◌, ◌++◌, length, length-append, refl, sym, ap, append_assoc, append-nil, arith}
use Rattle.std.specs.Prelude.{All}
use Rattle.std.proofs.lemmas.Bool.Decides.{nat_tests}
use Rattle.std.proofs.lemmas.List.Elements.{All-head, All-tail}
use Rattle.court_days.specs.Words.{CourtView}
use Rattle.docket_rows.specs.Words.{Rows, opening_rows, parts_of, setup_of}
use Rattle.row_forms.specs.declared.line.line.Line.{Line}
use Rattle.row_forms.specs.declared.line.line.Line.TheVariants as line
use Rattle.row_forms.specs.declared.row.Row.{Row}
use Rattle.row_forms.specs.Words.{names_of}
use Rattle.row_forms.specs.Line.Words.{fields_read, line_read}
use Rattle.row_forms.proofs.LineLemmas.CallerLemmas.{says_row}
use Rattle.office_texts.specs.Run.Replies.{docketed_after}
use Rattle.office_texts.specs.Run.Replies.{docketed_then, reply_to}
use Rattle.row_forms.specs.declared.row.Work.{Work}
use Rattle.desk_numbers.specs.declared.moved.Moved.{Moved}
use Rattle.desk_numbers.specs.Words.{given_by, numbered, placed}
use Rattle.desk_numbers.proofs.CallerLemmas.{nothing_changes, nothing_moves}
use Rattle.office_texts.specs.Run.Text.{line_of, lines_from, run_text}
use Rattle.office_texts.specs.Run.Words.{closing_text}
use Rattle.desk_session.specs.Taken.{left_by, told_to}
use Rattle.case_numbers.specs.Words.{CasesView, NameView, after_name, with_case}
use Rattle.case_numbers.specs.declared.names.NamedCase.{NamedCase}
use Rattle.office_texts.specs.Named.Words.{named_line_of}
use Rattle.office_texts.proofs.NamedLemmas.CallerLemmas.{without_names_as_before_lem}
use Rattle.desk_register.specs.declared.standing.Standing.{Standing}
use Rattle.desk_register.specs.declared.cause.LineCause.{LineCause}
use Rattle.desk_register.specs.Words.{HasNoFault, Reading, Run, answer_to, answers, as_it_is, cases_after, cases_of, docketed_by, docketed_with, entry_of, lacks_field, leaves, most_clerks, most_rows, next_number, numbers_with, opened_in, opening_run, plain_answers, plain_leaves, reading_at, reply_by_places, reply_under, row_entries, row_in, rows_among, rows_in, run_after, run_by, run_entry, run_said, told_of, told_or, with_name, with_opened, within}
use Rattle.desk_entries.specs.Laws.{AnswersAreTheRuns, plain}
use Rattle.desk_register.proofs.CallerLemmas.{cases_of-row, first_run, is_no_note, its_name, next_number-row, nothing_special, other_lines, past_its_name, plain_none, plain_one, run_by-more, says_its_row}

-- what lines are answered after entries, and the docket after them, are those of their rows
pub record IsRun (court : CourtView) (kept lines : List (List ℕ)) : Type 0 where
  pub told : told_to (leaves (plain court)) (answers (plain court)) kept lines ≡ lines_from court (docketed_by (plain court) kept) (next_number kept) (rows_in (names_of court) lines)
  pub docket : docketed_by (plain court) (kept ++ left_by (leaves (plain court)) kept lines) ≡ docketed_after (setup_of court) (docketed_by (plain court) kept) (rows_in (names_of court) lines)

none_run : (court : CourtView) (kept : List (List ℕ)) → IsRun court kept []
unfolding told_to left_by lines_from rows_in docketed_after
none_run court kept = record { told = refl; docket = ap (docketed_by (plain court)) (append-nil kept) }

-- a line in which there is no fault is read as it is
reads_plain : (court : CourtView) (kept : List (List ℕ)) (bytes : List ℕ) (said : Line) → line_read most_clerks (names_of court) bytes ≡ said → lacks_field 3 said ≡ false → lacks_field 4 said ≡ false → lacks_field 5 said ≡ false → reading_at (plain court) kept bytes ≡ as_it_is bytes
reads_plain court kept bytes said is third fourth fifth = other_lines (plain court) kept bytes (ap (lacks_field 3) is ∙ third) (ap (lacks_field 4) is ∙ fourth) (ap (lacks_field 5) is ∙ fifth)

-- a line that lacks no third field, no fourth and no fifth is answered as its plain line is
answered_plain : (under : Standing) (kept : List (List ℕ)) (bytes : List ℕ) (said : Line) → line_read most_clerks (names_of under.court) bytes ≡ said → lacks_field 3 said ≡ false → lacks_field 4 said ≡ false → lacks_field 5 said ≡ false → answers under kept bytes ≡ plain_answers under kept bytes (reading_at under kept bytes).text
unfolding answers
answered_plain under kept bytes said is third fourth fifth =
    ap (λ (special : Option LineCause). told_or under kept bytes special (plain_answers under kept bytes (reading_at under kept bytes).text))
    (nothing_special under kept bytes (ap (lacks_field 3) is ∙ third) (ap (lacks_field 4) is ∙ fourth) (ap (lacks_field 5) is ∙ fifth))

-- a line that says nothing
blank_run : (court : CourtView) (kept lines : List (List ℕ)) (bytes : List ℕ) → line_read most_clerks (names_of court) bytes ≡ line.Blank → IsRun court kept lines → IsRun court kept (bytes ∷ lines)
unfolding told_to left_by rows_in leaves answers plain_answers
blank_run court kept lines bytes blank run =
    let as_is = reads_plain court kept bytes line.Blank blank refl refl refl in
    let left : leaves (plain court) kept bytes ≡ [] =
    ap (λ (r : Reading). with_name r.name (plain_leaves (plain court) kept r.text)) as_is ∙ ap (with_name None) (plain_none (plain court) kept bytes line.Blank (ap (within kept) blank) refl) in
    let told : answers (plain court) kept bytes ≡ [] = answered_plain (plain court) kept bytes line.Blank blank refl refl refl ∙ ap (λ (r : Reading). plain_answers (plain court) kept bytes r.text) as_is ∙ ap (λ (l : Line). told_of (plain court) kept bytes (within kept l)) blank in
    let rows : rows_in (names_of court) (bytes ∷ lines) ≡ rows_in (names_of court) lines = ap (λ (l : Line). row_in l ++ rows_in (names_of court) lines) blank in
    let same : kept ++ leaves (plain court) kept bytes ≡ kept = ap (λ (l : List (List ℕ)). kept ++ l) left ∙ append-nil kept in
    record {
      told = ap (λ (t : List ℕ). t ++ told_to (leaves (plain court)) (answers (plain court)) (kept ++ leaves (plain court) kept bytes) lines) told
          ∙ ap (λ (k : List (List ℕ)). told_to (leaves (plain court)) (answers (plain court)) k lines) same ∙ run.told
          ∙ ap (lines_from court (docketed_by (plain court) kept) (next_number kept)) (sym rows);
      docket = ap (λ (l : List (List ℕ)). docketed_by (plain court) (kept ++ (l ++ left_by (leaves (plain court)) (kept ++ leaves (plain court) kept bytes) lines))) left
          ∙ ap (λ (k : List (List ℕ)). docketed_by (plain court) (kept ++ left_by (leaves (plain court)) k lines)) same ∙ run.docket
          ∙ ap (docketed_after (setup_of court) (docketed_by (plain court) kept)) (sym rows);
    }

-- where all is at its place a row is decided as it is, and its reply stays
then_plain : (court : CourtView) (run : Run) (work : Work) → run.numbers.moved ≡ [] → docketed_with (plain court) run work ≡ docketed_then (setup_of court) run.docketed work
then_plain court run work none = ap (λ (m : List Moved). docketed_then (setup_of court) run.docketed (placed m work)) none ∙ ap (docketed_then (setup_of court) run.docketed) (nothing_changes work (reply_to (setup_of court) run.docketed work)).0

-- nothing moves after it
moved_plain : (court : CourtView) (run : Run) (number : ℕ) (work : Work) → run.numbers.moved ≡ [] → (numbers_with (plain court) run number work).moved ≡ []
moved_plain court run number work none = nothing_moves run.numbers number (given_by work (reply_by_places (plain court) run.docketed run.numbers work)) none

reply_plain : (court : CourtView) (run : Run) (number : ℕ) (work : Work) → run.numbers.moved ≡ [] → reply_under (plain court) run number work ≡ reply_to (setup_of court) run.docketed work
reply_plain court run number work none =
    let same = nothing_changes work (reply_to (setup_of court) run.docketed work) in
    ap (λ (m : List Moved). numbered m work (reply_by_places (plain court) run.docketed run.numbers work)) (moved_plain court run number work none)
    ∙ ap (λ (m : List Moved). numbered [] work (reply_to (setup_of court) run.docketed (placed m work))) none
    ∙ ap (λ (w : Work). numbered [] work (reply_to (setup_of court) run.docketed w)) same.0 ∙ same.1

-- so all rows are decided as they are
entry_plain : (court : CourtView) (run : Run) (number : ℕ) (said : Line) → run.numbers.moved ≡ [] → (run_said (plain court) run number said).numbers.moved ≡ []
entry_plain court run number line.Blank none = none
entry_plain court run number (line.Fault cause) none = none
entry_plain court run number (line.Row row) none = moved_plain court run number row.work none

after_plain : (court : CourtView) (run : Run) (number : ℕ) (entries : List (List ℕ)) → run.numbers.moved ≡ [] → (run_after (plain court) run number entries).numbers.moved ≡ []
unfolding run_after
after_plain court run number [] none = none
after_plain court run number (entry ∷ entries) none =
    after_plain court (run_entry (plain court) run number entry) (number + 1) entries (entry_plain court run number (line_read most_clerks (names_of court) (after_name entry)) none)

pub all_plain : (court : CourtView) (kept : List (List ℕ)) → (run_by (plain court) kept).numbers.moved ≡ []
unfolding run_by
all_plain court kept = after_plain court (opening_run (plain court)) 1 (row_entries kept) refl

-- what a row is answered where no case has a name
no_names_answer : (court : CourtView) (kept : List (List ℕ)) (row : Row) → (cases_of (plain court) kept).named ≡ [] → answer_to (plain court) kept row ≡ line_of court (next_number kept) row.clerk (reply_to (setup_of court) (docketed_by (plain court) kept) row.work)
unfolding answer_to
no_names_answer court kept row none =
    let reply = reply_to (setup_of court) (docketed_by (plain court) kept) row.work in
    ap (λ (n : List NamedCase). named_line_of court n (next_number kept) row.clerk (reply_under (plain court) (run_by (plain court) kept) (next_number kept) row.work)) none
    ∙ ap (named_line_of court [] (next_number kept) row.clerk) (reply_plain court (run_by (plain court) kept) (next_number kept) row.work (all_plain court kept))
    ∙ without_names_as_before_lem court (next_number kept) row.clerk reply

-- and it leaves none
still_no_names : (cases : CasesView) (number : Option ℕ) → cases.named ≡ [] → (with_opened cases number None).named ≡ []
unfolding with_case
still_no_names cases None none = none
still_no_names cases (Some number) none = none

-- a line that says a row
row_run : (court : CourtView) (kept lines : List (List ℕ)) (bytes : List ℕ) (row : Row) → 0 < length kept → ltb (length kept) most_rows ≡ true → line_read most_clerks (names_of court) bytes ≡ line.Row row → (cases_of (plain court) kept).named ≡ []
    → IsRun court (kept ++ entry_of (plain court) kept (fields_read bytes) row ∷ []) lines → IsRun court kept (bytes ∷ lines)
unfolding told_to left_by rows_in leaves answers plain_answers lines_from docketed_after
row_run court kept lines bytes row begun room said names run =
    let as_is = reads_plain court kept bytes (line.Row row) said refl refl refl in
    let entry = entry_of (plain court) kept (fields_read bytes) row in
    let spelled = says_row most_clerks (names_of court) bytes row said in
    let none = is_no_note (names_of court) (fields_read bytes) row (answer_to (plain court) kept row) spelled in
    let reads : line_read most_clerks (names_of court) (after_name entry) ≡ line.Row row =
    ap (line_read most_clerks (names_of court)) (past_its_name (names_of court) (fields_read bytes) row (answer_to (plain court) kept row) spelled None tt) ∙ says_its_row (names_of court) (fields_read bytes) row (answer_to (plain court) kept row) spelled in
    let after = ap (λ (r : Run). r.docketed) (run_by-more (plain court) kept entry row begun none refl reads) ∙ then_plain court (run_by (plain court) kept) row.work (all_plain court kept) in
    let number = next_number-row kept entry begun none in
    let is : within kept (line_read most_clerks (names_of court) bytes) ≡ line.Row row = ap (within kept) said ∙ rw room refl in
    let left : leaves (plain court) kept bytes ≡ entry ∷ [] = ap (λ (r : Reading). with_name r.name (plain_leaves (plain court) kept r.text)) as_is ∙ ap (with_name None) (plain_one (plain court) kept bytes row is room) in
    let told : answers (plain court) kept bytes ≡ line_of court (next_number kept) row.clerk (reply_to (setup_of court) (docketed_by (plain court) kept) row.work) =
    answered_plain (plain court) kept bytes (line.Row row) said refl refl refl ∙ ap (λ (r : Reading). plain_answers (plain court) kept bytes r.text) as_is ∙ ap (told_of (plain court) kept bytes) is ∙ no_names_answer court kept row names in
    let rows : rows_in (names_of court) (bytes ∷ lines) ≡ row ∷ rows_in (names_of court) lines = ap (λ (l : Line). row_in l ++ rows_in (names_of court) lines) said in
    let then = docketed_by (plain court) (kept ++ entry ∷ []) in
    let others = rows_in (names_of court) lines in
    let answer = line_of court (next_number kept) row.clerk (reply_to (setup_of court) (docketed_by (plain court) kept) row.work) in
    record {
      told = ap (λ (t : List ℕ). t ++ told_to (leaves (plain court)) (answers (plain court)) (kept ++ leaves (plain court) kept bytes) lines) told
          ∙ ap (λ (l : List (List ℕ)). answer ++ told_to (leaves (plain court)) (answers (plain court)) (kept ++ l) lines) left
          ∙ ap (λ (t : List ℕ). answer ++ t) (run.told ∙ ap (λ (n : ℕ). lines_from court then n others) number ∙ ap (λ (d : Rows). lines_from court d (next_number kept + 1) others) after)
          ∙ ap (lines_from court (docketed_by (plain court) kept) (next_number kept)) (sym rows);
      docket = ap (λ (l : List (List ℕ)). docketed_by (plain court) (kept ++ (l ++ left_by (leaves (plain court)) (kept ++ l) lines))) left
          ∙ ap (docketed_by (plain court)) (sym (append_assoc kept (entry ∷ []) (left_by (leaves (plain court)) (kept ++ entry ∷ []) lines)))
          ∙ run.docket ∙ ap (λ (d : Rows). docketed_after (setup_of court) d others) after
          ∙ ap (docketed_after (setup_of court) (docketed_by (plain court) kept)) (sym rows);
    }

-- the cases after a row's entry without a name have none
names_after : (court : CourtView) (kept : List (List ℕ)) (bytes : List ℕ) (row : Row) → 0 < length kept → line_read most_clerks (names_of court) bytes ≡ line.Row row → (cases_of (plain court) kept).named ≡ []
    → (cases_of (plain court) (kept ++ entry_of (plain court) kept (fields_read bytes) row ∷ [])).named ≡ []
names_after court kept bytes row begun said names =
    let entry = entry_of (plain court) kept (fields_read bytes) row in
    let spelled = says_row most_clerks (names_of court) bytes row said in
    let none = is_no_note (names_of court) (fields_read bytes) row (answer_to (plain court) kept row) spelled in
    let opened = opened_in (line_read most_clerks (names_of court) (after_name entry)) in
    ap (λ (c : CasesView). c.named) (cases_of-row (plain court) kept entry begun none)
    ∙ ap (λ (n : Option NameView). (with_opened (cases_of (plain court) kept) opened n).named) (its_name (names_of court) (fields_read bytes) row (answer_to (plain court) kept row) spelled None tt)
    ∙ still_no_names (cases_of (plain court) kept) opened names

-- one line more
line_run : (court : CourtView) (kept lines : List (List ℕ)) (bytes : List ℕ) → 0 < length kept → length kept + length (bytes ∷ lines) ≤ most_rows → (cases_of (plain court) kept).named ≡ [] → HasNoFault (names_of court) bytes
    → ((then : List (List ℕ)) → 0 < length then → length then + length lines ≤ most_rows → (cases_of (plain court) then).named ≡ [] → IsRun court then lines) → IsRun court kept (bytes ∷ lines)
line_run court kept lines bytes begun few names sound rest = by (line_read most_clerks (names_of court) bytes) refl
  where
    room : ltb (length kept) most_rows ≡ true
    room = grind (arith, nat_tests)

    by : (said : Line) → line_read most_clerks (names_of court) bytes ≡ said → IsRun court kept (bytes ∷ lines)
    by line.Blank is = blank_run court kept lines bytes is (rest kept begun (omega (arith, few)) names)
    by (line.Fault cause) is = absurd (sound cause is)
    by (line.Row row) is =
        let entry = entry_of (plain court) kept (fields_read bytes) row in
        let long = length-append kept (entry ∷ []) in
        row_run court kept lines bytes row begun room is names (rest (kept ++ entry ∷ []) (omega (arith, long)) (omega (arith, long, few)) (names_after court kept bytes row begun is names))

lines_run : (court : CourtView) (kept lines : List (List ℕ)) → 0 < length kept → length kept + length lines ≤ most_rows → (cases_of (plain court) kept).named ≡ [] → All (HasNoFault (names_of court)) lines → IsRun court kept lines
lines_run court kept [] begun few names sound = none_run court kept
lines_run court kept (bytes ∷ lines) begun few names sound =
    line_run court kept lines bytes begun few names (All-head (HasNoFault (names_of court)) bytes lines sound)
    (λ then first room none. lines_run court then lines first room none (All-tail (HasNoFault (names_of court)) bytes lines sound))

-- no case has a name before the first row
no_names_first : (court : CourtView) (file : List ℕ) → (cases_of (plain court) (file ∷ [])).named ≡ []
unfolding cases_of cases_after rows_among
no_names_first court file = refl

-- the docket before the first row
opening : (court : CourtView) (file : List ℕ) → docketed_by (plain court) (file ∷ []) ≡ opening_rows (setup_of court)
opening court file = ap (λ (r : Run). r.docketed) (first_run (plain court) file)

pub first_number : (file : List ℕ) → next_number (file ∷ []) ≡ 1
unfolding rows_among
first_number file = refl

-- the law
pub answers_are_the_runs_lem : AnswersAreTheRuns
unfolding run_text
answers_are_the_runs_lem court file lines sound few =
    let run = lines_run court (file ∷ []) lines (omega arith) (omega (arith, few)) (no_names_first court file) sound in
    let rows = rows_in (names_of court) lines in
    let told : told_to (leaves (plain court)) (answers (plain court)) (file ∷ []) lines ≡ lines_from court (opening_rows (setup_of court)) 1 rows =
    run.told ∙ ap (λ (d : Rows). lines_from court d (next_number (file ∷ [])) rows) (opening court file) ∙ ap (λ (n : ℕ). lines_from court (opening_rows (setup_of court)) n rows) (first_number file) in
    let docket = run.docket ∙ ap (λ (d : Rows). docketed_after (setup_of court) d rows) (opening court file) in
    ap (λ (t : List ℕ). t ++ closing_text court (parts_of (docketed_after (setup_of court) (opening_rows (setup_of court)) rows))) (sym told)
    ∙ ap (λ (d : Rows). told_to (leaves (plain court)) (answers (plain court)) (file ∷ []) lines ++ closing_text court (parts_of d)) (sym docket)
