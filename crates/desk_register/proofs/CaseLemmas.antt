-- The cases that entries opened, after one more; and how lines are read.
use Rattle.std.proofs.Common.{◌≡◌, ◌∙◌, ◌<◌, ℕ, Bool, true, false, cond, List, [], ◌∷◌, ◌++◌, Option, Some, None, length, refl, ap, arith}
use Rattle.std.specs.Prelude.{◌&&◌, IsSome, codes, is_none, nat_eq, option_map}
use Rattle.std.proofs.lemmas.Bool.Decides.{nat_tests}
use Rattle.std.specs.Str.{bytes_eq}
use Rattle.case_numbers.specs.Words.{AreApart, CasesView, NameView, after_name, fresh, name_before, no_cases, number_of}
use Rattle.case_numbers.proofs.CallerLemmas.{names_stay_apart_lem}
use Rattle.court_days.specs.Words.{CourtView}
use Rattle.desk_register.specs.declared.standing.Standing.{Standing}
use Rattle.row_forms.specs.declared.fault.RowCause.{RowCause}
use Rattle.row_forms.specs.declared.fault.RowCause.TheVariants.{BadClerk, BadField, NotText, TooManyRows, UnknownCommand, WrongCount}
use Rattle.row_forms.specs.Words.{CourtNames, column, names_of}
use Rattle.row_forms.specs.declared.line.line.Line.{Line}
use Rattle.row_forms.specs.declared.line.line.Line.TheVariants as line
use Rattle.row_forms.specs.Line.Words.{fields_read, line_read}
use Rattle.desk_register.specs.CaseLines.{Reading, as_it_is, case_in, finds_no_number, is_field, lacks_field, lacks_number, named, named_if, newly, opens_too_many, reading_of}
use Rattle.desk_register.specs.Cases.{cases_after, cases_of, cases_with, opened_in, with_opened}
use Rattle.desk_register.specs.Entries.{most_clerks, note_in, row_entries}
use Rattle.desk_register.specs.Laws.{ACaseKeepsItsNumber, ACaseNumberIsOneCase, OtherLinesAreReadAsTheyAre}
use Rattle.desk_register.specs.declared.subject.Named.{Named}
use Rattle.desk_register.specs.Rows.{found_text, row_in, special_at, unfound_at, unfound_of, with_subject}
use Rattle.desk_register.specs.declared.cause.LineCause.TheVariants.{NotFound, TooManyCases}
use Rattle.desk_register.specs.Subjects.{named_by, named_fifth, named_in}
use Rattle.desk_register.proofs.ListLemmas.{row_entries-note, row_entries-row}

cases_after-append : (names : CourtNames) (cases : CasesView) (some more : List (List ℕ)) → cases_after names cases (some ++ more) ≡ cases_after names (cases_after names cases some) more
unfolding cases_after
cases_after-append names cases [] more = refl
cases_after-append names cases (entry ∷ some) more = cases_after-append names (cases_with names cases entry) some more

one_entry : (names : CourtNames) (cases : CasesView) (entry : List ℕ) → cases_after names cases (entry ∷ []) ≡ cases_with names cases entry
unfolding cases_after
one_entry names cases entry = refl

-- after a row's entry
pub cases_of-row : (under : Standing) (kept : List (List ℕ)) (entry : List ℕ) → 0 < length kept → note_in entry ≡ None
    → cases_of under (kept ++ entry ∷ []) ≡ with_opened (cases_of under kept) (opened_in (line_read most_clerks (names_of under.court) (after_name entry))) (name_before entry)
unfolding cases_of
cases_of-row under kept entry begun none =
    ap (cases_after (names_of under.court) no_cases) (row_entries-row kept entry begun none)
    ∙ cases_after-append (names_of under.court) no_cases (row_entries kept) (entry ∷ [])
    ∙ one_entry (names_of under.court) (cases_after (names_of under.court) no_cases (row_entries kept)) entry

-- and after an entry that is no row
pub cases_of-note : (under : Standing) (kept : List (List ℕ)) (entry : List ℕ) → 0 < length kept → IsSome (note_in entry) → cases_of under (kept ++ entry ∷ []) ≡ cases_of under kept
unfolding cases_of
cases_of-note under kept entry begun some = ap (cases_after (names_of under.court) no_cases) (row_entries-note kept entry begun some)

-- corrections change nothing of them
pub keeps_its_number : ACaseKeepsItsNumber
unfolding cases_of
keeps_its_number under other kept same = ap (λ (court : CourtView). cases_after (names_of court) no_cases (row_entries kept)) same

-- what says no row opens no case
pub none_opened : (said : Line) → row_in said ≡ [] → opened_in said ≡ None
none_opened line.Blank none = refl
none_opened (line.Fault cause) none = refl
none_opened (line.Row row) none = cc none

-- names stay apart
opened_apart : (cases : CasesView) (number : Option ℕ) (name : Option NameView) → AreApart cases.named → AreApart (with_opened cases number name).named
opened_apart cases None name apart = apart
opened_apart cases (Some number) name apart = names_stay_apart_lem cases number name apart

after_apart : (names : CourtNames) (cases : CasesView) (entries : List (List ℕ)) → AreApart cases.named → AreApart (cases_after names cases entries).named
unfolding cases_after
after_apart names cases [] apart = apart
after_apart names cases (entry ∷ entries) apart =
    after_apart names (cases_with names cases entry) entries (opened_apart cases (opened_in (line_read most_clerks names (after_name entry))) (name_before entry) apart)

none_apart : AreApart []
none_apart i j a b at_i at_j same = cc at_i

pub one_case : ACaseNumberIsOneCase
unfolding cases_of
one_case under kept = after_apart (names_of under.court) no_cases (row_entries kept) none_apart

-- a line that lacks no third field is read as it is
pub reads_itself : (names : CourtNames) (cases : CasesView) (bytes : List ℕ) → lacks_field 3 (line_read most_clerks names bytes) ≡ false → reading_of names cases bytes ≡ as_it_is bytes
unfolding reading_of
reads_itself names cases bytes is = rw is refl

-- a line that lacks one field lacks no other
one_field : (lacked other : ℕ) (cause : RowCause) → nat_eq lacked other ≡ false → is_field lacked cause ≡ true → is_field other cause ≡ false
one_field lacked other (BadField column) apart so = grind (arith, nat_tests)
one_field lacked other BadClerk apart so = refl
one_field lacked other UnknownCommand apart so = refl
one_field lacked other WrongCount apart so = refl
one_field lacked other NotText apart so = refl
one_field lacked other TooManyRows apart so = refl

pub one_lack : (lacked other : ℕ) (said : Line) → nat_eq lacked other ≡ false → lacks_field lacked said ≡ true → lacks_field other said ≡ false
one_lack lacked other line.Blank apart so = refl
one_lack lacked other (line.Fault cause) apart so = one_field lacked other cause apart so
one_lack lacked other (line.Row row) apart so = refl

-- a plain text whose fourth field and whose fifth are what they should be names nothing
pub names_nothing : (names : CourtNames) (text : List ℕ) → lacks_field 4 (line_read most_clerks names text) ≡ false → lacks_field 5 (line_read most_clerks names text) ≡ false → named_in names text ≡ None
unfolding named_in
names_nothing names text fourth fifth =
    ap (λ (b : Bool). cond b (named_by names 4 (fields_read text)) (named_fifth names text)) fourth
    ∙ ap (λ (b : Bool). cond b (named_by names 5 (fields_read text)) None) fifth

pub other_lines : OtherLinesAreReadAsTheyAre
other_lines under kept bytes third fourth fifth =
    ap (with_subject under kept) (reads_itself (names_of under.court) (cases_of under kept) bytes third)
    ∙ ap (λ (named : Option Named). as_it_is (found_text under kept bytes named)) (names_nothing (names_of under.court) bytes fourth fifth)

-- one that lacks no third field opens no case too many
few_enough : (names : CourtNames) (cases : CasesView) (bytes : List ℕ) → lacks_field 3 (line_read most_clerks names bytes) ≡ false → opens_too_many names cases bytes ≡ false
unfolding opens_too_many
few_enough names cases bytes is = rw is refl

-- nothing is wrong with a line but what it says that lacks no third field, no fourth and no fifth
pub nothing_special : (under : Standing) (kept : List (List ℕ)) (bytes : List ℕ) → lacks_field 3 (line_read most_clerks (names_of under.court) bytes) ≡ false → lacks_field 4 (line_read most_clerks (names_of under.court) bytes) ≡ false
    → lacks_field 5 (line_read most_clerks (names_of under.court) bytes) ≡ false → special_at under kept bytes ≡ None
nothing_special under kept bytes third fourth fifth =
    ap (λ (b : Bool). cond b (Some TooManyCases) (option_map NotFound (unfound_at under kept bytes))) (few_enough (names_of under.court) (cases_of under kept) bytes third)
    ∙ ap (λ (r : Reading). option_map NotFound (unfound_of under kept r.text (named_in (names_of under.court) r.text))) (reads_itself (names_of under.court) (cases_of under kept) bytes third)
    ∙ ap (λ (named : Option Named). option_map NotFound (unfound_of under kept bytes named)) (names_nothing (names_of under.court) bytes fourth fifth)

-- a line that opens a case too many is read as it is, and lacks its third field
finds_none : (line : List ℕ) (fields : List (List ℕ)) (name : NameView) (opens : Bool) (free : Option ℕ) → (opens && is_none free) ≡ true → newly line fields name (cond opens free None) ≡ as_it_is line
finds_none line fields name false free none = cc none
finds_none line fields name true (Some number) none = cc none
finds_none line fields name true None none = refl

takes_none : (cases : CasesView) (line : List ℕ) (fields : List (List ℕ)) (name : NameView) (number : Option ℕ) → (is_none number && finds_no_number cases fields) ≡ true → named cases line fields name number ≡ as_it_is line
takes_none cases line fields name (Some number) none = cc none
takes_none cases line fields name None none = finds_none line fields name (bytes_eq (column fields 2) (codes "open")) (fresh cases) none

named_none : (cases : CasesView) (line : List ℕ) (fields : List (List ℕ)) (name : Option NameView) → lacks_number cases fields name ≡ true → named_if cases line fields name ≡ as_it_is line
named_none cases line fields None none = cc none
named_none cases line fields (Some name) none = takes_none cases line fields name (number_of cases.named name.key) none

pub too_many_lacks : (names : CourtNames) (cases : CasesView) (line : List ℕ) → opens_too_many names cases line ≡ true → lacks_field 3 (line_read most_clerks names (reading_of names cases line).text) ≡ true
unfolding opens_too_many reading_of
too_many_lacks names cases line too_many = by (lacks_field 3 (line_read most_clerks names line)) refl too_many
  where
    by : (lacks : Bool) → lacks_field 3 (line_read most_clerks names line) ≡ lacks → (lacks && lacks_number cases (fields_read line) (case_in (fields_read line))) ≡ true
        → lacks_field 3 (line_read most_clerks names (cond lacks (named_if cases line (fields_read line) (case_in (fields_read line))) (as_it_is line)).text) ≡ true
    by false is none = cc none
    by true is none = ap (λ (r : Reading). lacks_field 3 (line_read most_clerks names r.text)) (named_none cases line (fields_read line) (case_in (fields_read line)) none) ∙ is
