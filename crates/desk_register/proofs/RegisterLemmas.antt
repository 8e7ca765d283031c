-- A register after one entry more.
use Rattle.std.proofs.Common.{◌≡◌, ◌∙◌, ◌+◌, ◌<◌, ℕ, Bool, cond, false, List, [], ◌∷◌, ◌++◌, Ok, Option, true, length, length-append, refl, sym, ap, subst, append-nil, arith}
use Rattle.std.proofs.lemmas.Bool.Decides.{nat_tests}
use Rattle.desk_numbers.specs.Strikes.Words.{all_before, is_struck}
use Rattle.docket_rows.specs.Words.{setup_of}
use Rattle.docket_core.specs.Words.{DocketView}
use Rattle.row_forms.specs.declared.line.line.Line.{Line}
use Rattle.row_forms.specs.declared.line.line.Line.TheVariants as line
use Rattle.row_forms.specs.declared.row.Row.{Row}
use Rattle.row_forms.specs.declared.row.Work.{Work}
use Rattle.row_forms.specs.Words.{CourtNames, names_of, row_of}
use Rattle.row_forms.specs.Line.Words.{fields_read, line_read}
use Rattle.row_forms.proofs.LineLemmas.CallerLemmas.{says_row}
use Rattle.office_texts.specs.Run.Words.{Holds}
use Rattle.desk_numbers.specs.declared.given.Given.{Given}
use Rattle.desk_numbers.specs.Words.{NumbersView, given_by, numbers_after, passed}
use Rattle.desk_session.specs.Words.{TakesLine}
use Rattle.std.specs.Prelude.{IsSome, None, Some, option_map}
use Rattle.case_numbers.specs.Words.{CasesView, NameView, after_name, name_before, name_line}
use Rattle.row_forms.specs.declared.fault.RowCause.{RowCause}
use Rattle.desk_numbers.specs.declared.subjects.Found.{Found}
use Rattle.desk_numbers.specs.declared.subjects.Found.TheVariants as found
use Rattle.desk_numbers.specs.declared.subjects.SubjectName.{SubjectName}
use Rattle.desk_numbers.specs.declared.subjects.SubjectName.TheVariants.{Called, Made, Newest, Under}
use Rattle.desk_register.specs.declared.cause.LineCause.{LineCause}
use Rattle.desk_register.specs.declared.cause.LineCause.TheVariants.{NotFound, TooManyCases}
use Rattle.desk_register.specs.declared.subject.Named.{Named}
use Rattle.desk_register.specs.Subjects.{named_in, with_found}
use Rattle.desk_register.specs.declared.standing.Standing.{Standing}
use Rattle.desk_register.specs.Called.{called_as, called_standing, newly_called, with_newly}
use Rattle.desk_register.specs.CaseLines.{lacks_field}
use Rattle.desk_register.specs.LineCauses.{cause_or, fault_told, unfound_as, unfound_there}
use Rattle.desk_register.specs.Cases.{cases_of, opened_as, opened_in, with_opened}
use Rattle.desk_register.specs.Entries.{most_clerks, most_entries, next_number, note_in}
use Rattle.desk_register.specs.Rows.{answer_to, answers, asks, cased_at, entry_of, follows, found_at, found_text, has_room, kept_answers, kept_leaves, leaves, left_again, left_of, plain_answers, plain_leaves, reading_at, row_in, special_at, told_of, told_or, too_many_at, unfound_at, unfound_of, with_name, within}
use Rattle.desk_register.specs.Run.{Run, docketed_by, docketed_with, numbers_with, reply_by_places, run_by, run_past}
use Rattle.desk_register.specs.Register.{IsDone, IsReadyAt, StandsAt}
use Rattle.desk_register.specs.Shifts.{shifts_by, shifts_said, told}
use Rattle.desk_register.specs.declared.register.Done.{Done}
use Rattle.desk_register.specs.declared.register.DocketRegister.{DocketRegister}
use Rattle.desk_register.proofs.CalledLemmas.{called_none, called_noted, called_said, called_standing-more, called_struck}
use Rattle.desk_register.proofs.CaseLemmas.{cases_of-note, cases_of-row, names_nothing, none_opened, one_lack, too_many_lacks}
use Rattle.desk_register.proofs.EntryLemmas.{WasRead, has_its_fields, is_no_note_named, its_name, past_its_name, plain_full, plain_none, plain_one, reading_read, says_its_row, within_row}
use Rattle.desk_register.proofs.DecidedLemmas.{run_by-more, run_by-none, run_by-note, run_by-struck}
use Rattle.desk_register.proofs.ShiftLemmas.{just_answered, none_said, question_shifts_nothing}
use Rattle.desk_register.proofs.ListLemmas.{before-row, next_number-note, next_number-row, not_struck}

-- the numbers after a row, by what they are made of
pub numbers_taken : (under : Standing) (kept : List (List ℕ)) (asked : Work) (own : List (Option Given)) (before made : NumbersView) (number : ℕ) (given : Option Given) → made ≡ numbers_after own before number given → own ≡ under.corrections.kept
    → before ≡ (run_by under kept).numbers → number ≡ next_number kept → given ≡ given_by asked (reply_by_places under (docketed_by under kept) (run_by under kept).numbers asked) → made ≡ numbers_with under (run_by under kept) (next_number kept) asked
numbers_taken under kept asked own before made number given is own_is before_is number_is given_is =
    is
    ∙ ap (λ (k : List (Option Given)). numbers_after k before number given) own_is
    ∙ ap (λ (n : NumbersView). numbers_after under.corrections.kept n number given) before_is
    ∙ ap (λ (n : ℕ). numbers_after under.corrections.kept (run_by under kept).numbers n given) number_is
    ∙ ap (numbers_after under.corrections.kept (run_by under kept).numbers (next_number kept)) given_is

-- the register after the row of an entry
pub stands_row : (under : Standing) (register : DocketRegister) (kept : List (List ℕ)) (entry : List ℕ) (row : Row) → 0 < length kept → length kept < most_entries → note_in entry ≡ None → is_struck under.corrections (next_number kept) ≡ false
    → line_read most_clerks (names_of under.court) (after_name entry) ≡ line.Row row → Holds (setup_of under.court) register.docket (docketed_with under (run_by under kept) row.work)
    → register.numbers ≡ numbers_with under (run_by under kept) (next_number kept) row.work → register.cases ≡ with_opened (cases_of under kept) (opened_as row.work) (name_before entry)
    → (fields : List (List ℕ)) → fields ≡ fields_read (after_name entry) → register.called ≡ with_newly (called_standing under kept) (newly_called (setup_of under.court) (docketed_by under kept) (run_by under kept).numbers.moved row.work fields)
    → register.number ≡ next_number kept + 1 → register.count ≡ length kept + 1
    → StandsAt under register (kept ++ entry ∷ [])
stands_row under register kept entry row begun room none live said holds numbers cases fields same called number count =
    let long : length (kept ++ entry ∷ []) ≡ length kept + 1 = length-append kept (entry ∷ []) in
    let more = run_by-more under kept entry row begun none live said in
    record {
      docket = subst (Holds (setup_of under.court) register.docket) (sym (ap (λ (r : Run). r.docketed) more)) holds;
      numbers = numbers ∙ sym (ap (λ (r : Run). r.numbers) more);
      cases = cases ∙ ap (λ (l : Line). with_opened (cases_of under kept) (opened_in l) (name_before entry)) (sym said) ∙ sym (cases_of-row under kept entry begun none);
      called = called ∙ sym (called_said under kept (called_standing under kept) entry row fields none live said same) ∙ sym (called_standing-more under kept entry begun);
      number = number ∙ sym (next_number-row kept entry begun none);
      count = count ∙ sym long;
      begun = omega (arith, long);
      few = omega (arith, long, room);
    }

-- the register after a row that is done, and its own entry, perhaps with a name
pub stands_after : (under : Standing) (register : DocketRegister) (kept : List (List ℕ)) (fields : List (List ℕ)) (row : Row) (name : Option NameView) → WasRead name → 0 < length kept → length kept < most_entries → is_struck under.corrections (next_number kept) ≡ false
    → row_of most_clerks (names_of under.court) fields ≡ Ok row → Holds (setup_of under.court) register.docket (docketed_with under (run_by under kept) row.work)
    → register.numbers ≡ numbers_with under (run_by under kept) (next_number kept) row.work → register.cases ≡ with_opened (cases_of under kept) (opened_as row.work) name
    → register.called ≡ with_newly (called_standing under kept) (newly_called (setup_of under.court) (docketed_by under kept) (run_by under kept).numbers.moved row.work fields) → register.number ≡ next_number kept + 1 → register.count ≡ length kept + 1
    → StandsAt under register (kept ++ (name_line name ++ entry_of under kept fields row) ∷ [])
stands_after under register kept fields row name was begun room live spelled holds numbers cases called number count =
    let answer = answer_to under kept row in
    let past = past_its_name (names_of under.court) fields row answer spelled name was in
    let named = its_name (names_of under.court) fields row answer spelled name was in
    stands_row under register kept (name_line name ++ entry_of under kept fields row) row begun room (is_no_note_named (names_of under.court) fields row answer spelled name) live
    (ap (line_read most_clerks (names_of under.court)) past ∙ says_its_row (names_of under.court) fields row answer spelled) holds numbers
    (cases ∙ ap (with_opened (cases_of under kept) (opened_as row.work)) (sym named))
    fields (sym (ap fields_read past ∙ has_its_fields (names_of under.court) fields row answer spelled)) called number count

-- what things are called after an entry that calls nothing anything
called_past : (under : Standing) (before register : DocketRegister) (kept : List (List ℕ)) (entry : List ℕ) → StandsAt under before kept → register.called ≡ before.called
    → called_as (note_in entry) under kept (called_standing under kept) entry ≡ called_standing under kept → register.called ≡ called_standing under (kept ++ entry ∷ [])
called_past under before register kept entry stands same none = same ∙ stands.called ∙ sym none ∙ sym (called_standing-more under kept entry stands.begun)

-- the register after an entry that is passed over, which changes nothing but numbers
stands_past : (under : Standing) (before register : DocketRegister) (kept : List (List ℕ)) (entry : List ℕ) → StandsAt under before kept → before.count < most_entries → docketed_by under (kept ++ entry ∷ []) ≡ docketed_by under kept
    → register.docket ≡ before.docket → register.numbers ≡ (run_by under (kept ++ entry ∷ [])).numbers → register.cases ≡ cases_of under (kept ++ entry ∷ []) → register.called ≡ called_standing under (kept ++ entry ∷ [])
    → register.number ≡ next_number (kept ++ entry ∷ []) → register.count ≡ before.count + 1 → StandsAt under register (kept ++ entry ∷ [])
stands_past under before register kept entry stands room docketed docket numbers cases called number count =
    let long : length (kept ++ entry ∷ []) ≡ length kept + 1 = length-append kept (entry ∷ []) in
    let was : before.count ≡ length kept = stands.count in
    record {
      docket = subst (Holds (setup_of under.court) register.docket) (sym docketed) (subst (λ (d : DocketView). Holds (setup_of under.court) d (docketed_by under kept)) (sym docket) stands.docket);
      numbers = numbers;
      cases = cases;
      called = called;
      number = number;
      count = count ∙ ap (λ (n : ℕ). n + 1) was ∙ sym long;
      begun = omega (arith, long);
      few = omega (arith, long, room, was);
    }

-- the cases after an entry that says no row
cases_of-none : (under : Standing) (kept : List (List ℕ)) (entry : List ℕ) → 0 < length kept → note_in entry ≡ None → row_in (line_read most_clerks (names_of under.court) (after_name entry)) ≡ [] → cases_of under (kept ++ entry ∷ []) ≡ cases_of under kept
cases_of-none under kept entry begun none said =
    cases_of-row under kept entry begun none ∙ ap (λ (o : Option ℕ). with_opened (cases_of under kept) o (name_before entry)) (none_opened (line_read most_clerks (names_of under.court) (after_name entry)) said)

-- the register after a row that is passed over
stands_past_row : (under : Standing) (before register : DocketRegister) (kept : List (List ℕ)) (entry : List ℕ) → StandsAt under before kept → before.count < most_entries → note_in entry ≡ None → run_by under (kept ++ entry ∷ []) ≡ run_past under (run_by under kept) (next_number kept)
    → register.docket ≡ before.docket → register.numbers ≡ passed under.corrections.kept before.numbers before.number → register.cases ≡ cases_of under (kept ++ entry ∷ []) → register.called ≡ called_standing under (kept ++ entry ∷ [])
    → register.number ≡ before.number + 1 → register.count ≡ before.count + 1 → StandsAt under register (kept ++ entry ∷ [])
stands_past_row under before register kept entry stands room none run docket numbers cases called number count =
    stands_past under before register kept entry stands room (ap (λ (r : Run). r.docketed) run) docket
    (numbers ∙ ap (λ (n : NumbersView). passed under.corrections.kept n before.number) stands.numbers ∙ ap (passed under.corrections.kept (run_by under kept).numbers) stands.number ∙ sym (ap (λ (r : Run). r.numbers) run)) cases called
    (number ∙ ap (λ (n : ℕ). n + 1) stands.number ∙ sym (next_number-row kept entry stands.begun none)) count

-- the register after an entry that says no row
pub stands_passed : (under : Standing) (before register : DocketRegister) (kept : List (List ℕ)) (entry : List ℕ) → StandsAt under before kept → before.count < most_entries → note_in entry ≡ None → row_in (line_read most_clerks (names_of under.court) (after_name entry)) ≡ []
    → register.docket ≡ before.docket → register.numbers ≡ passed under.corrections.kept before.numbers before.number → register.cases ≡ before.cases → register.called ≡ before.called → register.number ≡ before.number + 1 → register.count ≡ before.count + 1 → StandsAt under register (kept ++ entry ∷ [])
stands_passed under before register kept entry stands room none said docket numbers cases called number count =
    stands_past_row under before register kept entry stands room none (run_by-none under kept entry stands.begun none said) docket numbers (cases ∙ stands.cases ∙ sym (cases_of-none under kept entry stands.begun none said))
    (called_past under before register kept entry stands called (called_none under kept (called_standing under kept) entry none said)) number count

-- the register after a row that is struck
pub stands_past_struck : (under : Standing) (before register : DocketRegister) (kept : List (List ℕ)) (entry : List ℕ) → StandsAt under before kept → before.count < most_entries → note_in entry ≡ None → is_struck under.corrections (next_number kept) ≡ true
    → register.docket ≡ before.docket → register.numbers ≡ passed under.corrections.kept before.numbers before.number → register.cases ≡ with_opened before.cases (opened_in (line_read most_clerks (names_of under.court) (after_name entry))) (name_before entry)
    → register.called ≡ before.called → register.number ≡ before.number + 1 → register.count ≡ before.count + 1 → StandsAt under register (kept ++ entry ∷ [])
stands_past_struck under before register kept entry stands room none struck docket numbers cases called number count =
    stands_past_row under before register kept entry stands room none (run_by-struck under kept entry stands.begun none struck) docket numbers
    (cases ∙ ap (λ (c : CasesView). with_opened c (opened_in (line_read most_clerks (names_of under.court) (after_name entry))) (name_before entry)) stands.cases ∙ sym (cases_of-row under kept entry stands.begun none))
    (called_past under before register kept entry stands called (called_struck under kept (called_standing under kept) entry none struck)) number count

-- the register after an entry that is no row
pub stands_past_note : (under : Standing) (before register : DocketRegister) (kept : List (List ℕ)) (entry : List ℕ) → StandsAt under before kept → before.count < most_entries → IsSome (note_in entry)
    → register.docket ≡ before.docket → register.numbers ≡ before.numbers → register.cases ≡ before.cases → register.called ≡ before.called → register.number ≡ before.number → register.count ≡ before.count + 1 → StandsAt under register (kept ++ entry ∷ [])
stands_past_note under before register kept entry stands room some docket numbers cases called number count =
    let run = run_by-note under kept entry stands.begun some in
    stands_past under before register kept entry stands room (ap (λ (r : Run). r.docketed) run) docket
    (numbers ∙ stands.numbers ∙ sym (ap (λ (r : Run). r.numbers) run)) (cases ∙ stands.cases ∙ sym (cases_of-note under kept entry stands.begun some))
    (called_past under before register kept entry stands called (called_noted under kept (called_standing under kept) entry some))
    (number ∙ stands.number ∙ sym (next_number-note kept entry stands.begun some)) count

-- the register as it was, but for the fields that it read
pub as_it_was : (under : Standing) (before register : DocketRegister) (kept : List (List ℕ)) → StandsAt under before kept → register.docket ≡ before.docket → register.numbers ≡ before.numbers → register.cases ≡ before.cases → register.called ≡ before.called → register.number ≡ before.number → register.count ≡ before.count → StandsAt under register kept
as_it_was under before register kept stands docket numbers cases called number count =
    record {
      docket = subst (λ (d : DocketView). Holds (setup_of under.court) d (docketed_by under kept)) (sym docket) stands.docket;
      numbers = numbers ∙ stands.numbers;
      cases = cases ∙ stands.cases;
      called = called ∙ stands.called;
      number = number ∙ stands.number;
      count = count ∙ stands.count;
      begun = stands.begun;
      few = stands.few;
    }

-- what a line is answered that says this, where this is wrong beside
abbrev pub told_with : Standing → (kept : List (List ℕ)) → (bytes : List ℕ) → (special : Option LineCause) → Line → List ℕ
told_with under kept bytes special said = told_or under kept bytes special (told_of under kept bytes said)

-- a line that lacks no third field, no fourth and no fifth opens no case too many, and names nothing that isn't found
lacks_it : (number : ℕ) (kept : List (List ℕ)) (said then : Line) → within kept said ≡ then → lacks_field number then ≡ false → lacks_field number said ≡ false
lacks_it number kept line.Blank then is none = refl
lacks_it number kept (line.Fault cause) then is none = ap (lacks_field number) is ∙ none
lacks_it number kept (line.Row row) then is none = refl

one_found : (name : SubjectName) (number : ℕ) → unfound_as name (found.One number) ≡ None
one_found (Under rule) number = refl
one_found Newest number = refl
one_found (Made counted) number = refl
one_found (Called counted) number = refl

all_found : (under : Standing) (kept : List (List ℕ)) (text : List ℕ) (named : Option Named) → named_in (names_of under.court) text ≡ named → lacks_field 4 (line_read most_clerks (names_of under.court) (found_text under kept text named)) ≡ false
    → lacks_field 5 (line_read most_clerks (names_of under.court) (found_text under kept text named)) ≡ false → unfound_of under kept text named ≡ None
all_found under kept text None is no_fourth no_fifth = refl
all_found under kept text (Some named) is no_fourth no_fifth = ap (unfound_there named.at) (by (found_at under kept text named) no_fourth no_fifth)
  where
    nothing : lacks_field 4 (line_read most_clerks (names_of under.court) text) ≡ false → lacks_field 5 (line_read most_clerks (names_of under.court) text) ≡ false → ⊥
    nothing fourth fifth = let no : ◌≡◌ {A = Option Named} (Some named) None = sym is ∙ names_nothing (names_of under.court) text fourth fifth in cc no

    by : (there : Found) → lacks_field 4 (line_read most_clerks (names_of under.court) (with_found named.at text there)) ≡ false → lacks_field 5 (line_read most_clerks (names_of under.court) (with_found named.at text there)) ≡ false → unfound_as named.name there ≡ None
    by (found.One number) fourth fifth = one_found named.name number
    by found.None fourth fifth = absurd (nothing fourth fifth)
    by (found.Two number other) fourth fifth = absurd (nothing fourth fifth)

pub read_whole : (under : Standing) (kept : List (List ℕ)) (bytes : List ℕ) (said : Line) → line_read most_clerks (names_of under.court) (reading_at under kept bytes).text ≡ said → lacks_field 3 said ≡ false → lacks_field 4 said ≡ false → lacks_field 5 said ≡ false → special_at under kept bytes ≡ None
read_whole under kept bytes said is third fourth fifth = by (too_many_at under kept bytes) refl
  where
    names : CourtNames
    names = names_of under.court

    cased : List ℕ
    cased = (cased_at under kept bytes).text

    reads : List ℕ → Line
    reads text = line_read most_clerks names text

    by : (too_many : Bool) → too_many_at under kept bytes ≡ too_many → cond too_many (Some TooManyCases) (option_map NotFound (unfound_at under kept bytes)) ≡ None
    by false so = ap (option_map NotFound) (all_found under kept cased (named_in names cased) refl (ap (lacks_field 4) is ∙ fourth) (ap (lacks_field 5) is ∙ fifth))
    by true so =
        let lacks : lacks_field 3 (reads cased) ≡ true = too_many_lacks names (cases_of under kept) bytes so in
        let none = names_nothing names cased (one_lack 3 4 (reads cased) refl lacks) (one_lack 3 5 (reads cased) refl lacks) in
        let same : lacks_field 3 (reads (reading_at under kept bytes).text) ≡ lacks_field 3 (reads cased) = ap (λ (named : Option Named). lacks_field 3 (reads (found_text under kept cased named))) none in
        let no : true ≡ false = sym lacks ∙ sym same ∙ ap (lacks_field 3) is ∙ third in
        cc no

-- and so it is where there is no room for a row
pub not_special : (under : Standing) (kept : List (List ℕ)) (bytes : List ℕ) (said : Line) → within kept (line_read most_clerks (names_of under.court) (reading_at under kept bytes).text) ≡ said → lacks_field 3 said ≡ false → lacks_field 4 said ≡ false → lacks_field 5 said ≡ false → special_at under kept bytes ≡ None
not_special under kept bytes said is third fourth fifth =
    let read = line_read most_clerks (names_of under.court) (reading_at under kept bytes).text in
    read_whole under kept bytes read refl (lacks_it 3 kept read said is third) (lacks_it 4 kept read said is fourth) (lacks_it 5 kept read said is fifth)

-- what is told of a fault, by its cause
pub cause_told : (under : Standing) (kept : List (List ℕ)) (bytes : List ℕ) (special : Option LineCause) (cause : RowCause) → fault_told (next_number kept) bytes (cause_or special cause) ≡ told_with under kept bytes special (line.Fault cause)
cause_told under kept bytes None cause = refl
cause_told under kept bytes (Some special) cause = refl

-- what lines leave and are answered, by what they say
module _ (under : Standing) (register : DocketRegister) (kept : List (List ℕ)) (bytes : List ℕ) (batch : List (List ℕ)) (text : List ℕ) where
  -- a line that leaves nothing and moves nothing
  just_told : (said : Line) → within kept (line_read most_clerks (names_of under.court) (reading_at under kept bytes).text) ≡ said → plain_leaves under kept (reading_at under kept bytes).text ≡ [] → shifts_said under kept said ≡ []
      → IsReadyAt under register kept → (text_after : List ℕ) → text_after ≡ text ++ told_with under kept bytes (special_at under kept bytes) said → TakesLine (leaves under) (told under) (IsReadyAt under register) kept bytes batch batch text text_after
  unfolding leaves answers plain_answers told
  just_told said is none unmoved stands text_after added =
      let left : leaves under kept bytes ≡ [] = ap (with_name (reading_at under kept bytes).name) none in
      record {
        stands = subst (IsReadyAt under register) (sym (ap (λ (l : List (List ℕ)). kept ++ l) left ∙ append-nil kept)) stands;
        left = sym (append-nil batch) ∙ ap (λ (l : List (List ℕ)). batch ++ l) (sym left);
        told = added ∙ ap (λ l. text ++ told_with under kept bytes (special_at under kept bytes) l) (sym is)
            ∙ ap (λ (l : List ℕ). text ++ l) (sym (just_answered under kept bytes _ (ap (shifts_said under kept) is ∙ unmoved)));
      }

  -- a line that says no row
  pub nothing_left : (said : Line) → within kept (line_read most_clerks (names_of under.court) (reading_at under kept bytes).text) ≡ said → row_in said ≡ [] → IsReadyAt under register kept → (text_after : List ℕ)
      → text_after ≡ text ++ told_with under kept bytes (special_at under kept bytes) said → TakesLine (leaves under) (told under) (IsReadyAt under register) kept bytes batch batch text text_after
  nothing_left said is none = just_told said is (plain_none under kept (reading_at under kept bytes).text said is none) (none_said under kept said none)

  -- a question for which there is no room
  pub question_left : (row : Row) → within kept (line_read most_clerks (names_of under.court) (reading_at under kept bytes).text) ≡ line.Row row → asks row.work ≡ true → has_room kept ≡ false → IsReadyAt under register kept
      → (text_after : List ℕ) → text_after ≡ text ++ answer_to under kept row → TakesLine (leaves under) (told under) (IsReadyAt under register) kept bytes batch batch text text_after
  question_left row is question full stands text_after added =
      just_told (line.Row row) is (plain_full under kept (reading_at under kept bytes).text full) (question_shifts_nothing under kept row question) stands text_after
      (added ∙ ap (λ (special : Option LineCause). text ++ told_or under kept bytes special (answer_to under kept row)) (sym (not_special under kept bytes (line.Row row) is refl refl refl)))

  -- a line that says a row, which is done
  pub row_left : (row : Row) → within kept (line_read most_clerks (names_of under.court) (reading_at under kept bytes).text) ≡ line.Row row → has_room kept ≡ true → 0 < length kept → all_before under.corrections (next_number kept) ≡ true → (fields : List (List ℕ)) → fields ≡ fields_read (reading_at under kept bytes).text
      → (name : Option NameView) → name ≡ (reading_at under kept bytes).name → (made : Done)
      → IsDone under kept fields row name register made → (batch_after : List (List ℕ)) (text_after : List ℕ) → batch_after ≡ batch ++ made.entry.items ∷ [] → text_after ≡ text ++ (answer_to under kept row ++ shifts_by under kept row)
      → TakesLine (leaves under) (told under) (IsReadyAt under register) kept bytes batch batch_after text text_after
  unfolding leaves answers plain_answers told
  row_left row is room begun before fields fields_are name name_is made done batch_after text_after batch_is text_is =
      let plain = (reading_at under kept bytes).text in
      let said = within_row kept (line_read most_clerks (names_of under.court) plain) row is in
      let below : length kept < most_entries = grind (arith, nat_tests) in
      let spelled = says_row most_clerks (names_of under.court) plain row said in
      let entry = name_line name ++ entry_of under kept (fields_read plain) row in
      let left : leaves under kept bytes ≡ entry ∷ [] =
      ap (with_name (reading_at under kept bytes).name) (plain_one under kept plain row is room) ∙ ap (λ (n : Option NameView). with_name n (entry_of under kept (fields_read plain) row ∷ [])) (sym name_is) in
      let made_is : made.entry.items ≡ entry = done.entry ∙ ap (λ (f : List (List ℕ)). name_line name ++ entry_of under kept f row) fields_are in
      let was : WasRead name = subst WasRead (sym name_is) (reading_read (names_of under.court) (cases_of under kept) bytes) in
      record {
        stands = subst (IsReadyAt under register) (sym (ap (λ (l : List (List ℕ)). kept ++ l) left)) (record {
          at = stands_after under register kept (fields_read plain) row name was begun below (not_struck under.corrections (next_number kept) before) spelled done.docket done.numbers done.cases (done.called ∙ ap (λ (f : List (List ℕ)). with_newly (called_standing under kept) (newly_called (setup_of under.court) (docketed_by under kept) (run_by under kept).numbers.moved row.work f)) fields_are) done.number done.count;
          before = before-row under.corrections kept entry begun (is_no_note_named (names_of under.court) (fields_read plain) row (answer_to under kept row) spelled name) before;
        });
        left = batch_is ∙ ap (λ (e : List ℕ). batch ++ e ∷ []) made_is ∙ ap (λ (l : List (List ℕ)). batch ++ l) (sym left);
        told = text_is ∙ ap (λ l. text ++ (told_of under kept bytes l ++ shifts_said under kept l)) (sym is)
            ∙ ap (λ (special : Option LineCause). text ++ (told_or under kept bytes special (plain_answers under kept bytes plain) ++ shifts_said under kept (within kept (line_read most_clerks (names_of under.court) plain))))
            (sym (not_special under kept bytes (line.Row row) is refl refl refl));
      }

-- an entry that says a row is the next one where the row leaves it
module _ (under : Standing) (register : DocketRegister) (kept : List (List ℕ)) (entry : List ℕ) where
  -- what an entry leaves that says a row
  pub leaves_made : (row : Row) → line_read most_clerks (names_of under.court) (after_name entry) ≡ line.Row row → (fields : List (List ℕ)) → fields ≡ fields_read (after_name entry) → (name : Option NameView) → name ≡ name_before entry
      → (made : Done) → IsDone under kept fields row name register made → left_again under kept entry ≡ made.entry.items ∷ []
  unfolding kept_leaves
  leaves_made row is fields fields_are name name_is made done =
      ap (λ (l : Line). with_name (name_before entry) (left_of under kept (fields_read (after_name entry)) l)) is
      ∙ ap (λ (e : List ℕ). e ∷ []) (sym (done.entry ∙ ap (λ (f : List (List ℕ)). name_line name ++ entry_of under kept f row) fields_are ∙ ap (λ (n : Option NameView). name_line n ++ entry_of under kept (fields_read (after_name entry)) row) name_is))

  -- an entry that says no row leaves nothing
  pub follows_as_row : follows under kept entry → (row : Row) × (line_read most_clerks (names_of under.court) (after_name entry) ≡ line.Row row)
  unfolding kept_leaves
  follows_as_row h = by (line_read most_clerks (names_of under.court) (after_name entry)) refl h
    where
      by : (said : Line) → line_read most_clerks (names_of under.court) (after_name entry) ≡ said → with_name (name_before entry) (left_of under kept (fields_read (after_name entry)) said) ≡ entry ∷ [] → (row : Row) × (said ≡ line.Row row)
      by line.Blank is e = cc e
      by (line.Fault cause) is e = cc e
      by (line.Row row) is e = (row, refl)

  -- an entry that says no row isn't the next
  pub not_as : (said : Line) → line_read most_clerks (names_of under.court) (after_name entry) ≡ said → row_in said ≡ [] → follows under kept entry → ⊥
  not_as said is none may =
      let (row, says) = follows_as_row may in
      let row_is : said ≡ line.Row row = sym is ∙ says in
      let none_is : row_in (line.Row row) ≡ [] = ap row_in (sym row_is) ∙ none in
      cc none_is

  -- what it is answered
  pub answers_as : (said : Line) → line_read most_clerks (names_of under.court) (after_name entry) ≡ said → kept_answers under kept (after_name entry) ≡ told_of under kept (after_name entry) said
  unfolding kept_answers
  answers_as said is = ap (told_of under kept (after_name entry)) is
