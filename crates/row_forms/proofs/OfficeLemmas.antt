-- The desk reads what clerk_office reads, and it is work of clerk_office.
use Rattle.std.proofs.Common.{◌≡◌, ◌∙◌, ◌+◌, ◌==◌, ℕ, Bool, true, false, List, [], ◌∷◌, Option, Some, None, Result, Ok, Err, cond, length, ltb, not, refl, rules, sym, ap, subst}
use Rattle.std.specs.List.{All, list_all}
use Rattle.std.specs.Option.{ok_or}
use Rattle.std.specs.Str.{is_utf8}
use Rattle.std.proofs.lemmas.Bool.{false_from_ne_true}
use Rattle.std.proofs.lemmas.List.Elements.{All-cons, All-nil}
use Rattle.docket_rows.specs.declared.command.Command.TheVariants as command
use Rattle.docket_rows.specs.declared.query.Query.TheVariants as query
use Rattle.rule_periods.specs.Words.{is_set}
use Rattle.row_forms.specs.declared.fault.RowCause.{RowCause}
use Rattle.row_forms.specs.declared.fault.RowCause.TheVariants.{BadClerk, NotText, TooManyRows, WrongCount}
use Rattle.row_forms.specs.declared.forms.periods.Measured.{Measured}
use Rattle.row_forms.specs.declared.forms.table.Form.{Form}
use Rattle.row_forms.specs.declared.forms.table.Form.TheVariants.{Assign, Close, Compute, End, Extend, Label, Reopen, Reset, Resume, Rule, Set, Start, Title}
use Rattle.row_forms.specs.declared.row.Row.{Row}
use Rattle.row_forms.specs.declared.row.Work.{Work}
use Rattle.row_forms.specs.declared.row.Work.TheVariants.{Command, Query}
use Rattle.row_forms.specs.Columns.{◌>>=◌, column, number_in}
use Rattle.row_forms.specs.CourtNames.{CourtNames, office_names}
use Rattle.row_forms.specs.Forms.{compute_row, extend_row, office_work_of, read_as, start_row, work_as, work_of}
use Rattle.row_forms.specs.Forms.Periods.{measured_from}
use Rattle.row_forms.specs.Forms.Table.{columns_of_form, command_word, form_of, is_word_of, office_form_of, office_forms}
use Rattle.row_forms.specs.Office.{OfficeRowsAreReadAlike, RowsAreOfficeWork, is_office_work}
use Rattle.row_forms.specs.Rows.{clerk_of, in_row, most_rows, office_row_of, row_asking, row_of, rows_read, rows_read_from}
use Rattle.row_forms.proofs.FormLemmas.{at_desk, extend_is, named_in, start_is}
use Rattle.row_forms.proofs.PeriodLemmas.{measured_alike, measured_counted}

-- the forms of the desk's own
abbrev of_desk : Form → Bool
of_desk Set = true
of_desk Reset = true
of_desk End = true
of_desk Resume = true
of_desk Close = true
of_desk Reopen = true
of_desk Rule = true
of_desk Assign = true
of_desk Title = true
of_desk Label = true
of_desk other = false

-- a form whose own word clerk_office doesn't take has no word there
none_has : (form : Form) (word : List ℕ) → office_form_of (command_word form) ≡ None → office_form_of word ≡ Some form → ⊥
unfolding office_form_of
none_has form word none h =
    let same : command_word form ≡ word = named_in office_forms word form h in
    let found : None ≡ Some form = sym none ∙ subst (λ (w : List ℕ). office_form_of w ≡ Some form) (sym same) h in
    cc found

-- so no word of clerk_office names a form of the desk's own: the last line is checked for every other form
never_of_desk : (word : List ℕ) (form : Form) → of_desk form ≡ true → office_form_of word ≡ Some form → ⊥
unfolding office_form_of is_word_of
never_of_desk word Set own h = none_has Set word refl h
never_of_desk word Reset own h = none_has Reset word refl h
never_of_desk word End own h = none_has End word refl h
never_of_desk word Resume own h = none_has Resume word refl h
never_of_desk word Close own h = none_has Close word refl h
never_of_desk word Reopen own h = none_has Reopen word refl h
never_of_desk word Rule own h = none_has Rule word refl h
never_of_desk word Assign own h = none_has Assign word refl h
never_of_desk word Title own h = none_has Title word refl h
never_of_desk word Label own h = none_has Label word refl h
never_of_desk word other own h = cc own

-- what is read, if anything is, is work of clerk_office
record IsOffice (r : Result Work RowCause) : Type 0 where
  office : (work : Work) → r ≡ Ok work → is_office_work work ≡ true

done : (work : Work) → is_office_work work ≡ true → IsOffice (Ok work)
done work e = record { office = λ other same. let equal : work ≡ other = cc same in rw (← equal) e }

after : {A : Type 0} (r : Result A RowCause) (more : A → Result Work RowCause) → ((x : A) → IsOffice (more x)) → IsOffice (r >>= more)
after (Ok x) more each = each x
after (Err cause) more each = record { office = λ work none. cc none }

counted : (wrong : Bool) (r : Result Work RowCause) → IsOffice r → IsOffice (cond wrong (Err WrongCount) r)
counted true r h = record { office = λ work none. cc none }
counted false r h = h

compute_is : (names : CourtNames) (fields : List (List ℕ)) (work : Work) → compute_row names fields ≡ Ok work → is_office_work work ≡ true
compute_is names fields work h = by (measured_from names fields 3) refl h
  where
    by : (m : Result Measured RowCause) → measured_from names fields 3 ≡ m → (m >>= (λ (x : Measured). Ok (Query (query.Compute x.period x.event x.second x.service)))) ≡ Ok work → is_office_work work ≡ true
    by (Err cause) same e = cc e
    by (Ok x) same e =
        let is : Query (query.Compute x.period x.event x.second x.service) ≡ work = cc e in
        let plain : is_set x.period ≡ false = measured_counted names fields 3 x same in
        let office : is_office_work (Query (query.Compute x.period x.event x.second x.service)) ≡ true = rw plain refl in
        rw (← is) office

-- of each form but those of the desk's own: the last line is checked for every other form
form_is_office : (names : CourtNames) (form : Form) (fields : List (List ℕ)) → of_desk form ≡ false → IsOffice (read_as names form fields)
form_is_office names Set fields office = cc office
form_is_office names Reset fields office = cc office
form_is_office names End fields office = cc office
form_is_office names Resume fields office = cc office
form_is_office names Close fields office = cc office
form_is_office names Reopen fields office = cc office
form_is_office names Rule fields office = cc office
form_is_office names Assign fields office = cc office
form_is_office names Title fields office = cc office
form_is_office names Label fields office = cc office
form_is_office names Extend fields office =
    counted (not (length fields == length (columns_of_form Extend))) (extend_row fields) (record { office = λ work h. (extend_is fields work h).1 })
form_is_office names Start fields office =
    counted (not (length fields == length (columns_of_form Start))) (start_row names fields) (record { office = λ work h. (start_is names fields work h).1 })
form_is_office names Compute fields office =
    counted (not (length fields == length (columns_of_form Compute))) (compute_row names fields) (record { office = λ work h. compute_is names fields work h })
form_is_office names other fields office = search (rules, counted, after, done) depth 12

-- what is read by clerk_office is read alike at the desk
start_alike : (names : CourtNames) (fields : List (List ℕ)) (work : Work) → start_row (office_names names) fields ≡ Ok work → start_row names fields ≡ Ok work
start_alike names fields work h = by (number_in fields 3) (measured_from (office_names names) fields 4) refl h
  where
    by : (case : Result ℕ RowCause) (m : Result Measured RowCause) → measured_from (office_names names) fields 4 ≡ m
        → (case >>= (λ (n : ℕ). m >>= (λ (x : Measured). Ok (Command (command.Start n x.period x.event x.second x.service))))) ≡ Ok work
        → (case >>= (λ (n : ℕ). measured_from names fields 4 >>= (λ (x : Measured). Ok (Command (command.Start n x.period x.event x.second x.service))))) ≡ Ok work
    by (Err cause) m same e = cc e
    by (Ok n) (Err cause) same e = cc e
    by (Ok n) (Ok x) same e = rw (measured_alike names fields 4 x same) e

compute_alike : (names : CourtNames) (fields : List (List ℕ)) (work : Work) → compute_row (office_names names) fields ≡ Ok work → compute_row names fields ≡ Ok work
compute_alike names fields work h = by (measured_from (office_names names) fields 3) refl h
  where
    by : (m : Result Measured RowCause) → measured_from (office_names names) fields 3 ≡ m
        → (m >>= (λ (x : Measured). Ok (Query (query.Compute x.period x.event x.second x.service)))) ≡ Ok work
        → (measured_from names fields 3 >>= (λ (x : Measured). Ok (Query (query.Compute x.period x.event x.second x.service)))) ≡ Ok work
    by (Err cause) same e = cc e
    by (Ok x) same e = rw (measured_alike names fields 3 x same) e

counted_alike : (wrong : Bool) (office desk : Result Work RowCause) (work : Work) → (office ≡ Ok work → desk ≡ Ok work) → cond wrong (Err WrongCount) office ≡ Ok work → cond wrong (Err WrongCount) desk ≡ Ok work
counted_alike true office desk work alike h = cc h
counted_alike false office desk work alike h = alike h

-- of each form: the last line is checked for every other form, whose rows have no period
form_alike : (names : CourtNames) (form : Form) (fields : List (List ℕ)) (work : Work) → read_as (office_names names) form fields ≡ Ok work → read_as names form fields ≡ Ok work
form_alike names Start fields work h =
    counted_alike (not (length fields == length (columns_of_form Start))) (start_row (office_names names) fields) (start_row names fields) work (start_alike names fields work) h
form_alike names Compute fields work h =
    counted_alike (not (length fields == length (columns_of_form Compute))) (compute_row (office_names names) fields) (compute_row names fields) work (compute_alike names fields work) h
form_alike names other fields work h = h

-- what a row that was read asks for, and a row that asks for this
row_asks : (clerks : ℕ) (asked : Result Work RowCause) (fields : List (List ℕ)) (row : Row) → row_asking clerks asked fields ≡ Ok row → asked ≡ Ok row.work
row_asks clerks asked fields row h = by (list_all is_utf8 fields) (ltb (length fields) 2) (clerk_of clerks (column fields 1)) asked h
  where
    by : (text few : Bool) (found : Option ℕ) (work : Result Work RowCause)
        → cond (not text) (Err NotText) (cond few (Err WrongCount) (ok_or found BadClerk >>= (λ clerk. work >>= (λ w. Ok (record { clerk = clerk; work = w }))))) ≡ Ok row
        → work ≡ Ok row.work
    by false few found work e = cc e
    by true true found work e = cc e
    by true false None work e = cc e
    by true false (Some clerk) (Err cause) e = cc e
    by true false (Some clerk) (Ok w) e = let same : w ≡ row.work = cc e in ap Ok same

asks_row : (clerks : ℕ) (asked other : Result Work RowCause) (fields : List (List ℕ)) (row : Row) → row_asking clerks asked fields ≡ Ok row → other ≡ Ok row.work → row_asking clerks other fields ≡ Ok row
asks_row clerks asked other fields row h same =
    ap (λ (work : Result Work RowCause). row_asking clerks work fields) (same ∙ sym (row_asks clerks asked fields row h)) ∙ h

-- the form of a row that was read
work_named : (names : CourtNames) (found : Option Form) (fields : List (List ℕ)) (work : Work) → work_as names found fields ≡ Ok work
    → (form : Form) × (found ≡ Some form) × (read_as names form fields ≡ Ok work)
unfolding work_as
work_named names None fields work h = cc h
work_named names (Some form) fields work h = (form, refl, h)

-- a row whose form is known
named_work : (names : CourtNames) (found : Option Form) (form : Form) (fields : List (List ℕ)) (work : Work) → found ≡ Some form → read_as names form fields ≡ Ok work → work_as names found fields ≡ Ok work
unfolding work_as
named_work names found form fields work named reads = rw named reads

pub office_rows_are_read_alike_lem : OfficeRowsAreReadAlike
unfolding office_row_of office_work_of row_of work_of
office_rows_are_read_alike_lem clerks names fields row h =
    let word : List ℕ = column fields 2 in
    let office : CourtNames = office_names names in
    let (form, named, reads) = work_named office (office_form_of word) fields row.work (row_asks clerks (work_as office (office_form_of word) fields) fields row h) in
    let read : work_as names (form_of word) fields ≡ Ok row.work = named_work names (form_of word) form fields row.work (at_desk word form named) (form_alike names form fields row.work reads) in (
      asks_row clerks (work_as office (office_form_of word) fields) (work_as names (form_of word) fields) fields row h read,
      (form_is_office office form fields (false_from_ne_true _ (λ own. never_of_desk word form own named))).office row.work reads,
    )

-- the rows of records
abbrev IsOfficeRow : Row → Type 0
IsOfficeRow row = is_office_work row.work ≡ true

office_rows : (clerks : ℕ) (names : CourtNames) (n : ℕ) (records : List (List (List ℕ))) (rows : List Row) → rows_read_from clerks names n records ≡ Ok rows → All IsOfficeRow rows
unfolding rows_read_from
office_rows clerks names n [] rows h =
    let none : [] ≡ rows = cc h in
    rw (← none) (All-nil IsOfficeRow)
office_rows clerks names n (fields ∷ more) rows h =
    by (ltb most_rows n) (office_row_of clerks names fields) refl (rows_read_from clerks names (n + 1) more) (λ later. office_rows clerks names (n + 1) more later) h
  where
    by : (past : Bool) (r : Result Row RowCause) → office_row_of clerks names fields ≡ r → (rest : Result (List Row) (ℕ × RowCause)) → ((later : List Row) → rest ≡ Ok later → All IsOfficeRow later)
        → (in_row n (cond past (Err TooManyRows) r) >>= (λ row. rest >>= (λ rows. Ok (row ∷ rows)))) ≡ Ok rows
        → All IsOfficeRow rows
    by true r spelled rest later e = cc e
    by false (Err cause) spelled rest later e = cc e
    by false (Ok row) spelled (Err fault) later e = cc e
    by false (Ok row) spelled (Ok others) later e =
        let same : row ∷ others ≡ rows = cc e in
        rw (← same) (All-cons IsOfficeRow row others (office_rows_are_read_alike_lem clerks names fields row spelled).1 (later others refl))

pub rows_are_office_work_lem : RowsAreOfficeWork
unfolding rows_read
rows_are_office_work_lem clerks names bytes rows h = office_rows clerks names 1 _ rows h
