-- Lines that name a deadline or a motion without its number, by what they are read as.
use Rattle.std.proofs.Common.{◌≡◌, ◌∙◌, ℕ, Bool, true, false, cond, List, Option, Some, None, refl, sym, ap, arith}
use Rattle.std.proofs.lemmas.Bool.Decides.{nat_tests}
use Rattle.case_numbers.specs.Words.{CasesView, NameView}
use Rattle.row_forms.specs.declared.fault.RowCause.{RowCause}
use Rattle.row_forms.specs.declared.fault.RowCause.TheVariants.{BadClerk, BadField, NotText, TooManyRows, UnknownCommand, WrongCount}
use Rattle.row_forms.specs.declared.row.Row.{Row}
use Rattle.docket_rows.specs.Words.{setup_of}
use Rattle.row_forms.specs.Words.{CourtNames, column, names_of}
use Rattle.row_forms.specs.declared.line.line.Line.{Line}
use Rattle.row_forms.specs.declared.line.line.Line.TheVariants as line
use Rattle.row_forms.specs.Line.Words.{fields_read, line_read}
use Rattle.desk_numbers.specs.Words.{NumbersView, TextsView}
use Rattle.desk_numbers.specs.declared.subjects.Found.{Found}
use Rattle.desk_numbers.specs.declared.subjects.Found.TheVariants as found
use Rattle.desk_register.specs.declared.standing.Standing.{Standing}
use Rattle.desk_register.specs.declared.subject.Named.{Named}
use Rattle.desk_register.specs.Called.{called_standing}
use Rattle.desk_register.specs.CaseLines.{IsRead, is_field, lacks_field, reading_of}
use Rattle.desk_register.specs.Cases.{cases_of}
use Rattle.desk_register.specs.Entries.{most_clerks}
use Rattle.desk_register.specs.Rows.{IsReadAt, cased_at, found_at, found_text, reading_at}
use Rattle.desk_register.specs.Run.{docketed_by, run_by}
use Rattle.desk_register.specs.Subjects.{IsReadApart, found_for, named_by, named_fifth, named_in, one_text, with_found}

-- a line that lacks a field has that fault
field_is : (number : ℕ) (cause : RowCause) → is_field number cause ≡ true → cause ≡ BadField number
field_is number (BadField column) so = let same : column ≡ number = grind (arith, nat_tests) in ap BadField same
field_is number BadClerk so = cc so
field_is number UnknownCommand so = cc so
field_is number WrongCount so = cc so
field_is number NotText so = cc so
field_is number TooManyRows so = cc so

pub lacking : (number : ℕ) (said : Line) → lacks_field number said ≡ true → said ≡ line.Fault (BadField number)
lacking number line.Blank so = cc so
lacking number (line.Fault cause) so = ap line.Fault (field_is number cause so)
lacking number (line.Row row) so = cc so

-- what a line names, where its fourth field is what it should be or isn't
pub named_whole : (names : CourtNames) (text : List ℕ) (lacks : Bool) → lacks_field 4 (line_read most_clerks names text) ≡ lacks → named_in names text ≡ cond lacks (named_by names 4 (fields_read text)) (named_fifth names text)
unfolding named_in
named_whole names text lacks is = ap (λ (b : Bool). cond b (named_by names 4 (fields_read text)) (named_fifth names text)) is

-- and what it names in the fifth
pub fifth_whole : (names : CourtNames) (text : List ℕ) (lacks : Bool) → lacks_field 5 (line_read most_clerks names text) ≡ lacks → named_fifth names text ≡ cond lacks (named_by names 5 (fields_read text)) None
fifth_whole names text lacks is = ap (λ (b : Bool). cond b (named_by names 5 (fields_read text)) None) is

-- one that names something lacks one of them
pub named_lacks : (names : CourtNames) (text : List ℕ) (named : Named) → named_in names text ≡ Some named → (column : ℕ) × (line_read most_clerks names text ≡ line.Fault (BadField column))
unfolding named_in
named_lacks names text named is = by (lacks_field 4 (line_read most_clerks names text)) (lacks_field 5 (line_read most_clerks names text)) refl refl is
  where
    by : (fourth fifth : Bool) → lacks_field 4 (line_read most_clerks names text) ≡ fourth → lacks_field 5 (line_read most_clerks names text) ≡ fifth
        → cond fourth (named_by names 4 (fields_read text)) (cond fifth (named_by names 5 (fields_read text)) None) ≡ Some named → (column : ℕ) × (line_read most_clerks names text ≡ line.Fault (BadField column))
    by true fifth so other is = (4, lacking 4 (line_read most_clerks names text) so)
    by false true other so is = (5, lacking 5 (line_read most_clerks names text) so)
    by false false fourth fifth is = cc is

-- what is found, by what was read and what is held
pub found_alike : (under : Standing) (kept : List (List ℕ)) (numbers : NumbersView) (texts : TextsView) (named : Named) (fields : List (List ℕ)) (text : List ℕ) → numbers ≡ (run_by under kept).numbers → texts ≡ called_standing under kept → fields ≡ fields_read text
    → found_for (setup_of under.court) (docketed_by under kept) numbers texts named (column fields named.at) ≡ found_at under kept text named
found_alike under kept numbers texts named fields text numbers_are texts_are fields_are =
    let setup = setup_of under.court in
    let docketed = docketed_by under kept in
    ap (λ (n : NumbersView). found_for setup docketed n texts named (column fields named.at)) numbers_are
    ∙ ap (λ (t : TextsView). found_for setup docketed (run_by under kept).numbers t named (column fields named.at)) texts_are
    ∙ ap (λ (f : List (List ℕ)). found_for setup docketed (run_by under kept).numbers (called_standing under kept) named (column f named.at)) fields_are

-- how a line is read whose plain text names nothing
pub reads_none : (under : Standing) (kept : List (List ℕ)) (bytes : List ℕ) (fields : List (List ℕ)) (read : Line × Option NameView) → IsRead (names_of under.court) (cases_of under kept) bytes fields read
    → named_in (names_of under.court) (cased_at under kept bytes).text ≡ None → IsReadAt under kept bytes fields read
reads_none under kept bytes fields read is none =
    let text = (cased_at under kept bytes).text in
    let same : text ≡ (reading_at under kept bytes).text = sym (ap (found_text under kept text) none) in
    record { said = is.said ∙ ap (line_read most_clerks (names_of under.court)) same; name = is.name; fields_are = λ row says. is.fields_are row says ∙ ap fields_read same }

-- and one whose plain text names something
pub reads_some : (under : Standing) (kept : List (List ℕ)) (bytes : List ℕ) (fields : List (List ℕ)) (said : Line) (name : Option NameView) (named : Named) (there : Found) → named_in (names_of under.court) (cased_at under kept bytes).text ≡ Some named
    → there ≡ found_at under kept (cased_at under kept bytes).text named → said ≡ line_read most_clerks (names_of under.court) (with_found named.at (cased_at under kept bytes).text there)
    → ((row : Row) → said ≡ line.Row row → fields ≡ fields_read (with_found named.at (cased_at under kept bytes).text there)) → name ≡ (cased_at under kept bytes).name → IsReadAt under kept bytes fields (said, name)
reads_some under kept bytes fields said name named there is there_is said_is fields_are name_is =
    let text = (cased_at under kept bytes).text in
    let same : with_found named.at text there ≡ (reading_at under kept bytes).text = ap (with_found named.at text) there_is ∙ sym (ap (found_text under kept text) is) in
    record { said = said_is ∙ ap (line_read most_clerks (names_of under.court)) same; name = name_is; fields_are = λ row says. fields_are row says ∙ ap fields_read same }

-- the same before the docket is known
pub apart_none : (names : CourtNames) (cases : CasesView) (bytes : List ℕ) (fields : List (List ℕ)) (read : Line × Option NameView) → IsRead names cases bytes fields read → named_in names (reading_of names cases bytes).text ≡ None → IsReadApart names cases bytes read
apart_none names cases bytes fields read is none =
    let text = (reading_of names cases bytes).text in
    record { said = is.said ∙ ap (line_read most_clerks names) (sym (ap (one_text text) none)); name = is.name }

pub apart_some : (names : CourtNames) (cases : CasesView) (bytes : List ℕ) (said : Line) (name : Option NameView) (named : Named) → named_in names (reading_of names cases bytes).text ≡ Some named
    → said ≡ line_read most_clerks names (with_found named.at (reading_of names cases bytes).text (found.One 1)) → name ≡ (reading_of names cases bytes).name → IsReadApart names cases bytes (said, name)
apart_some names cases bytes said name named is said_is name_is =
    let text = (reading_of names cases bytes).text in
    record { said = said_is ∙ ap (line_read most_clerks names) (sym (ap (one_text text) is)); name = name_is }
