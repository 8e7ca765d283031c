-- A row is refused where the columns of its form don't take its fields.
use Rattle.std.proofs.Common.{◌≡◌, ◌∙◌, ◌==◌, ℕ, Bool, true, false, List, Option, Some, None, Result, Ok, Err, cond, ltb, length, not, drop, refl, rules, sym, ap}
use Rattle.std.specs.List.{list_all}
use Rattle.std.specs.Option.{is_some, ok_or, option_map}
use Rattle.std.specs.Str.{is_utf8}
use Rattle.row_forms.specs.declared.fault.RowCause.{RowCause}
use Rattle.row_forms.specs.declared.fault.RowCause.TheVariants.{BadClerk, BadField, NotText, WrongCount}
use Rattle.row_forms.specs.declared.forms.table.Form.{Form}
use Rattle.row_forms.specs.declared.forms.table.Form.TheVariants as form
use Rattle.row_forms.specs.declared.headings.columns.Column.TheVariants.{TimeOrNone, SecondOrNone, ServiceOrNone, ResumeDay, JudgeOrNone, Clerk, Command}
use Rattle.row_forms.specs.declared.row.Row.{Row}
use Rattle.row_forms.specs.declared.row.Work.{Work}
use Rattle.row_forms.specs.Columns.{◌>>=◌, column, day_in, number_in}
use Rattle.row_forms.specs.CourtNames.{CourtNames, office_names}
use Rattle.row_forms.specs.Fields.Choices.{kind_if_given}
use Rattle.row_forms.specs.Fields.Times.{day_if_given, minute_or_midnight}
use Rattle.row_forms.specs.Forms.{fields_as, office_work_of, work_as, work_of}
use Rattle.row_forms.specs.Forms.Periods.{measured_from}
use Rattle.row_forms.specs.Forms.Settings.{setting_in}
use Rattle.row_forms.specs.Forms.Table.{columns_of_form, form_of, office_form_of}
use Rattle.row_forms.specs.Rows.{clerk_of, office_row_of, row_asking, row_of}
use Rattle.row_forms.specs.Taken.{BracketsShowWhatMayBeEmpty, EmptyFieldsAreTaken, RowsFollowTheTable, fault_by_table, fault_in_form, fault_of, first_untaken, takes}
use Rattle.row_forms.proofs.FormLemmas.{known_at_desk}

-- what is read is refused at this column, or at none
record Follows {A : Type 0} (r : Result A RowCause) (untaken : Option ℕ) : Type 0 where
  is : fault_of r ≡ option_map BadField untaken

done : {A : Type 0} (x : A) → Follows (Ok x) None
done x = record { is = refl }

-- one column more
read : {A B : Type 0} (n : ℕ) (found : Option A) (more : A → Result B RowCause) (rest : Option ℕ) → ((x : A) → Follows (more x) rest) → Follows (ok_or found (BadField n) >>= more) (cond (is_some found) rest (Some n))
read n None more rest each = record { is = refl }
read n (Some x) more rest each = record { is = (each x).is }

module _ (clerks : ℕ) (names : CourtNames) (fields : List (List ℕ)) where
  -- of each form: the second line is checked for every other form
  form_follows : (f : Form) → Follows (fields_as names f fields) (first_untaken clerks names fields 3 (drop 2 (columns_of_form f)))
  unfolding number_in day_in measured_from setting_in first_untaken
  form_follows form.Open = search (rules, read, done) depth 12
  form_follows other = search (rules, read, done) depth 12

  module _ (clerk : takes clerks names Clerk (column fields 1) ≡ true) where
    -- the first two columns are those of the clerk and of the command word
    starts : (f : Form) → takes clerks names Command (column fields 2) ≡ true → first_untaken clerks names fields 1 (columns_of_form f) ≡ first_untaken clerks names fields 3 (drop 2 (columns_of_form f))
    unfolding first_untaken
    starts form.Open command = rw (clerk, command) refl
    starts other command = rw (clerk, command) refl

    counted : (f : Form) (wrong : Bool) → takes clerks names Command (column fields 2) ≡ true
        → fault_of (cond wrong (Err WrongCount) (fields_as names f fields)) ≡ cond wrong (Some WrongCount) (option_map BadField (first_untaken clerks names fields 1 (columns_of_form f)))
    counted f true command = refl
    counted f false command = (form_follows f).is ∙ ap (option_map BadField) (sym (starts f command))

    -- by a table whose words the desk has too
    work_follows : (found : Option Form) → (is_some found ≡ true → takes clerks names Command (column fields 2) ≡ true) → fault_of (work_as names found fields) ≡ fault_in_form clerks names fields found
    unfolding work_as
    work_follows None known = refl
    work_follows (Some f) known = counted f (not (length fields == length (columns_of_form f))) (known refl)

row_follows : (clerks : ℕ) (names : CourtNames) (fields : List (List ℕ)) (found : Option Form) → (is_some found ≡ true → takes clerks names Command (column fields 2) ≡ true)
    → fault_of (row_asking clerks (work_as names found fields) fields) ≡ fault_by_table clerks names fields found
row_follows clerks names fields found known = by (list_all is_utf8 fields) (ltb (length fields) 2) (clerk_of clerks (column fields 1)) refl
  where
    kept : (more : Work → Row) (r : Result Work RowCause) → fault_of (r >>= (λ work. Ok (more work))) ≡ fault_of r
    kept more (Ok work) = refl
    kept more (Err cause) = refl

    by : (text few : Bool) (number : Option ℕ) → clerk_of clerks (column fields 1) ≡ number
        → fault_of {A = Row} (cond (not text) (Err NotText) (cond few (Err WrongCount) (ok_or number BadClerk >>= (λ clerk. work_as names found fields >>= (λ work. Ok (record { clerk = clerk; work = work }))))))
        ≡ cond (not text) (Some NotText) (cond few (Some WrongCount) (cond (not (is_some number)) (Some BadClerk) (fault_in_form clerks names fields found)))
    by false few number e = refl
    by true true number e = refl
    by true false None e = refl
    by true false (Some clerk) e = kept (λ work. record { clerk = clerk; work = work }) (work_as names found fields) ∙ work_follows clerks names fields (ap is_some e) found known

pub rows_follow_the_table_lem : RowsFollowTheTable
unfolding row_of work_of office_row_of office_work_of
rows_follow_the_table_lem = record {
  desk = λ clerks names fields. row_follows clerks names fields (form_of (column fields 2)) (λ known. known);
  office = λ clerks names fields. row_follows clerks (office_names names) fields (office_form_of (column fields 2)) (known_at_desk (column fields 2));
}

pub empty_fields_are_taken_lem : EmptyFieldsAreTaken
unfolding minute_or_midnight day_if_given kind_if_given
empty_fields_are_taken_lem TimeOrNone clerks names e = refl
empty_fields_are_taken_lem SecondOrNone clerks names e = refl
empty_fields_are_taken_lem ServiceOrNone clerks names e = refl
empty_fields_are_taken_lem ResumeDay clerks names e = refl
empty_fields_are_taken_lem JudgeOrNone clerks names e = refl
empty_fields_are_taken_lem other clerks names e = cc e

pub brackets_show_what_may_be_empty_lem : BracketsShowWhatMayBeEmpty
brackets_show_what_may_be_empty_lem Clerk = refl
brackets_show_what_may_be_empty_lem other = refl
