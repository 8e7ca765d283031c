-- The faults of lines, after one more.
use Rattle.std.specs.Prelude.{◌⊎◌, IsSome}
use Rattle.std.proofs.Common.{inl, inr, Some, None, ◌≡◌, ◌∙◌, ◌+◌, ◌≤◌, ◌==◌, ℕ, Bool, true, false, cond, List, [], ◌∷◌, ◌++◌, Option, length, length-append, refl, sym, ap, subst, append_assoc, append-nil, arith}
use Rattle.desk_register.specs.declared.standing.Standing.{Standing}
use Rattle.row_forms.specs.declared.fault.RowCause.{RowCause}
use Rattle.row_forms.specs.Words.{names_of}
use Rattle.row_forms.specs.declared.line.line.Line.{Line}
use Rattle.row_forms.specs.declared.line.line.Line.TheVariants as line
use Rattle.row_forms.specs.Line.Words.{fields_read, line_read}
use Rattle.desk_session.specs.Words.{HasNoEnd, IsFirstLine, number_after, numbered_from, unmarked, unmarked_lines}
use Rattle.desk_session.proofs.CallerLemmas.{numbered_from-first, numbered_from-none}
use Rattle.desk_register.specs.LineFaults.{CountsAs, FaultyLine, fault_as, faults_of, left_before, read_before}
use Rattle.desk_register.specs.Laws.{AllSayRows, FaultlessLinesSayRows, HasNoFault}
use Rattle.case_numbers.specs.Words.{CasesView, NameView, after_name, name_before, name_line}
use Rattle.desk_register.specs.Subjects.{named_in, one_text, read_apart}
use Rattle.desk_register.specs.declared.subject.Named.{Named}
use Rattle.desk_register.specs.Cases.{cases_of, opened_as, opened_in, with_opened}
use Rattle.desk_register.specs.Entries.{most_clerks}
use Rattle.desk_register.specs.Rows.{answer_to, cased_at, entry_of, found_text, has_room, plain_leaves, too_many_at, with_name, within}
use Rattle.desk_register.proofs.CaseLemmas.{cases_of-row}
use Rattle.desk_register.proofs.EntryLemmas.{WasRead, is_no_note_named, its_name, past_its_name, plain_one, reading_read, says_its_row, within_row}
use Rattle.desk_register.proofs.ListLemmas.{before-row}
use Rattle.row_forms.proofs.LineLemmas.CallerLemmas.{says_row}
use Rattle.row_forms.specs.declared.row.Row.{Row}

-- what a line says after entries, by what was read of it
pub said_at : (under : Standing) (kept : List (List ℕ)) (bytes : List ℕ) (cases : CasesView) (said : Line) → cases ≡ cases_of under kept → said ≡ line_read most_clerks (names_of under.court) (read_apart (names_of under.court) cases bytes).text
    → within kept said ≡ within kept (line_read most_clerks (names_of under.court) (read_before under kept bytes).text)
said_at under kept bytes cases said cases_are is = ap (within kept) (is ∙ ap (λ (k : CasesView). line_read most_clerks (names_of under.court) (read_apart (names_of under.court) k bytes).text) cases_are)

-- the entries that there are after a line that leaves nothing
pub counts_same : (under : Standing) (kept : List (List ℕ)) (bytes : List ℕ) (count : ℕ) (cases : CasesView) → plain_leaves under kept (read_before under kept bytes).text ≡ []
    → CountsAs under kept count cases → CountsAs under (kept ++ left_before under kept bytes) count cases
counts_same under kept bytes count cases none counts =
    let left : left_before under kept bytes ≡ [] = ap (with_name (read_before under kept bytes).name) none in
    subst (λ (k : List (List ℕ)). CountsAs under k count cases) (sym (ap (λ (l : List (List ℕ)). kept ++ l) left ∙ append-nil kept)) counts

-- and after one that says a row for which there is room
pub counts_more : (under : Standing) (kept : List (List ℕ)) (bytes : List ℕ) (row : Row) (before after : ℕ) (cases then : CasesView) → within kept (line_read most_clerks (names_of under.court) (read_before under kept bytes).text) ≡ line.Row row → has_room kept ≡ true
    → CountsAs under kept before cases → after ≡ before + 1 → (name : Option NameView) → name ≡ (read_before under kept bytes).name → then ≡ with_opened cases (opened_as row.work) name
    → CountsAs under (kept ++ left_before under kept bytes) after then
counts_more under kept bytes row before after cases then is room counts one name name_is opened =
    let plain = (read_before under kept bytes).text in
    let said = within_row kept (line_read most_clerks (names_of under.court) plain) row is in
    let spelled = says_row most_clerks (names_of under.court) plain row said in
    let answer = answer_to under kept row in
    let was : WasRead name = subst WasRead (sym name_is) (reading_read (names_of under.court) (cases_of under kept) bytes) in
    let entry = name_line name ++ entry_of under kept (fields_read plain) row in
    let left : left_before under kept bytes ≡ entry ∷ [] =
    ap (with_name (read_before under kept bytes).name) (plain_one under kept plain row is room) ∙ ap (λ (n : Option NameView). with_name n (entry_of under kept (fields_read plain) row ∷ [])) (sym name_is) in
    let none = is_no_note_named (names_of under.court) (fields_read plain) row answer spelled name in
    let reads : line_read most_clerks (names_of under.court) (after_name entry) ≡ line.Row row =
    ap (line_read most_clerks (names_of under.court)) (past_its_name (names_of under.court) (fields_read plain) row answer spelled name was) ∙ says_its_row (names_of under.court) (fields_read plain) row answer spelled in
    let long : length (kept ++ entry ∷ []) ≡ length kept + 1 = length-append kept (entry ∷ []) in
    let were = counts.count_is in
    subst (λ (l : List (List ℕ)). CountsAs under (kept ++ l) after then) (sym left) (record {
      count_is = one ∙ ap (λ (n : ℕ). n + 1) were ∙ sym long;
      cases_are = opened ∙ ap (λ (c : CasesView). with_opened c (opened_as row.work) name) counts.cases_are
          ∙ ap (λ (n : Option NameView). with_opened (cases_of under kept) (opened_as row.work) n) (sym (its_name (names_of under.court) (fields_read plain) row answer spelled name was))
          ∙ ap (λ (l : Line). with_opened (cases_of under kept) (opened_in l) (name_before entry)) (sym reads)
          ∙ sym (cases_of-row under kept entry counts.begun none);
      begun = omega (arith, long);
      before = before-row under.corrections kept entry counts.begun none counts.before;
    })

-- the faults of an input are those that were found and those of what is left of it
pub faults_more : (under : Standing) (marked : Bool) (kept : List (List ℕ)) (number : ℕ) (rest line : List ℕ) (end : ℕ) (after : List ℕ) (found found_then all : List FaultyLine) → IsFirstLine rest line end after
    → found ++ faults_of under kept (unmarked_lines marked (numbered_from number [] rest)) ≡ all
    → found_then ≡ found ++ fault_as number (unmarked marked line) (too_many_at under kept (unmarked marked line)) (within kept (line_read most_clerks (names_of under.court) (read_before under kept (unmarked marked line)).text))
    → found_then ++ faults_of under (kept ++ left_before under kept (unmarked marked line)) (unmarked_lines marked (numbered_from (number_after number end) [] after)) ≡ all
unfolding faults_of
faults_more under marked kept number rest line end after found found_then all first so_far more =
    let read = unmarked marked line in
    ap (λ (f : List FaultyLine). f ++ faults_of under (kept ++ left_before under kept read) (unmarked_lines marked (numbered_from (number_after number end) [] after))) more
    ∙ append_assoc found (fault_as number read (too_many_at under kept read) (within kept (line_read most_clerks (names_of under.court) (read_before under kept read).text))) _
    ∙ ap (λ (lines : List (ℕ × List ℕ)). found ++ faults_of under kept (unmarked_lines marked lines)) (sym (numbered_from-first number rest line end after first))
    ∙ so_far

-- and where no line is left, they are those that were found
pub faults_all : (under : Standing) (marked : Bool) (kept : List (List ℕ)) (number : ℕ) (rest : List ℕ) (found all : List FaultyLine) → HasNoEnd rest → found ++ faults_of under kept (unmarked_lines marked (numbered_from number [] rest)) ≡ all → found ≡ all
unfolding faults_of
faults_all under marked kept number rest found all none so_far =
    sym (ap (λ (lines : List (ℕ × List ℕ)). found ++ faults_of under kept (unmarked_lines marked lines)) (numbered_from-none number rest none) ∙ append-nil found)
    ∙ so_far

-- the number of the next line is no more than that of this one and the bytes that are read of it
pub number_within : (number : ℕ) (rest line : List ℕ) (end : ℕ) (after : List ℕ) (most : ℕ) → IsFirstLine rest line end after → number + length rest ≤ most → number_after number end + length after ≤ most
number_within number rest line end after most first within = by (end == 10)
  where
    long : length rest ≡ length line + (length after + 1)
    long = ap length first.parts ∙ length-append line (end ∷ after) ∙ omega arith

    by : (feed : Bool) → cond feed (number + 1) number + length after ≤ most
    by true = omega (arith, within, long)
    by false = omega (arith, within, long)

-- parts of nothing
no_parts : (some more : List FaultyLine) → some ++ more ≡ [] → (some ≡ []) × (more ≡ [])
no_parts [] more none = (refl, none)
no_parts (fault ∷ some) more none = cc none

-- a line in which no fault is found
no_fault_in : (kept : List (List ℕ)) (number : ℕ) (bytes : List ℕ) (too_many : Bool) (said : Line) (cause : RowCause) → fault_as number bytes too_many (within kept said) ≡ [] → said ≡ line.Fault cause → ⊥
no_fault_in kept number bytes too_many said cause none is =
    let one : fault_as number bytes too_many (line.Fault cause) ≡ [] = ap (λ (l : Line). fault_as number bytes too_many (within kept l)) (sym is) ∙ none in
    cc one

-- a line in which no fault is found says a row or is blank, unless it names a deadline or a motion
no_fault_or : (under : Standing) (kept : List (List ℕ)) (bytes : List ℕ) (named : Option Named) → HasNoFault (names_of under.court) (one_text (cased_at under kept bytes).text named) → HasNoFault (names_of under.court) (found_text under kept (cased_at under kept bytes).text named) ⊎ IsSome named
no_fault_or under kept bytes None none = inl none
no_fault_or under kept bytes (Some named) none = inr search

-- the law
pub faultless_lines_say_rows_lem : FaultlessLinesSayRows
unfolding faults_of AllSayRows
faultless_lines_say_rows_lem under kept [] none = tt
faultless_lines_say_rows_lem under kept (numbered ∷ lines) none =
    let said = line_read most_clerks (names_of under.court) (read_before under kept numbered.1).text in
    let too_many = too_many_at under kept numbered.1 in
    let (here, later) = no_parts (fault_as numbered.0 numbered.1 too_many (within kept said)) (faults_of under (kept ++ left_before under kept numbered.1) lines) none in (
      no_fault_or under kept numbered.1 (named_in (names_of under.court) (cased_at under kept numbered.1).text) (λ cause is. no_fault_in kept numbered.0 numbered.1 too_many said cause here is),
      faultless_lines_say_rows_lem under (kept ++ left_before under kept numbered.1) lines later,
    )
