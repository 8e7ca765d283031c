-- What each column takes, and that a row is refused exactly where its form's columns don't take its fields.
use Rattle.std.specs.Prelude.{◌≡◌, ℕ, ◌+◌, ◌==◌, not, nat_eq, nat_lt, Bool, true, List, [], ◌∷◌, length, codes, Option, Some, None, option_map, Result, Ok, Err, if◌then◌else◌}
use Rattle.std.specs.List.{list_all, starts_with}
use Rattle.std.specs.Option.{is_some}
use Rattle.std.specs.Str.{is_utf8}
use Rattle.court_clock.specs.Words.{day_of_text, minute_of_text}
use Rattle.row_forms.specs.declared.fault.RowCause.{RowCause}
use Rattle.row_forms.specs.declared.fault.RowCause.TheVariants.{BadClerk, BadField, NotText, UnknownCommand, WrongCount}
use Rattle.row_forms.specs.declared.forms.table.Form.{Form}
use Rattle.row_forms.specs.declared.headings.columns.Column.{Column}
use Rattle.row_forms.specs.declared.headings.columns.Column.TheVariants.{Clerk, Command, Case, Deadline, Motion, Period, Date, Time, Start, TimeOrNone, SecondOrNone, ServiceOrNone, Means, Grant, ByMotion, Cause, Neglect, Need, Holidays, From, To, Judge, Judges, Room, Slots, Notice, Act, Why, Closing, ResumeDay, Ruling, JudgeOrNone, Dated, Title, Counted, Number, Label}
use Rattle.row_forms.specs.Columns.{column}
use Rattle.row_forms.specs.CourtNames.{CourtNames, office_names}
use Rattle.row_forms.specs.Fields.Choices.{closing_of, counted_of, ending_of, is_so, kind_if_given, list_of, means_of, ruling_of}
use Rattle.row_forms.specs.Fields.Grants.{grant_of, need_of}
use Rattle.row_forms.specs.Fields.Hearings.{panel_named, slots_of}
use Rattle.row_forms.specs.Fields.Numbers.{number_of}
use Rattle.row_forms.specs.Fields.Period.{act_of, period_in}
use Rattle.row_forms.specs.Fields.Texts.{text_length}
use Rattle.row_forms.specs.Fields.Times.{day_if_given, ending_minute, minute_or_midnight, slot_at}
use Rattle.row_forms.specs.Forms.Table.{columns_of_form, form_of, office_form_of}
use Rattle.row_forms.specs.Headings.Columns.{mark_of, may_be_empty}
use Rattle.row_forms.specs.Rows.{clerk_of, office_row_of, row_of}

-- a column takes this field: any text is a judge's or a room's name
abbrev pub takes : (clerks : ℕ) → CourtNames → Column → List ℕ → Bool
takes clerks names Clerk field = is_some (clerk_of clerks field)
takes clerks names Command field = is_some (form_of field)
takes clerks names Case field = is_some (number_of field)
takes clerks names Deadline field = is_some (number_of field)
takes clerks names Motion field = is_some (number_of field)
takes clerks names Period field = is_some (period_in names field)
takes clerks names Date field = is_some (day_of_text field)
takes clerks names Time field = is_some (minute_of_text field)
takes clerks names Start field = is_some (slot_at field)
takes clerks names TimeOrNone field = is_some (minute_or_midnight field)
takes clerks names SecondOrNone field = is_some (day_if_given field)
takes clerks names ServiceOrNone field = is_some (kind_if_given field)
takes clerks names Means field = is_some (means_of field)
takes clerks names Grant field = is_some (grant_of field)
takes clerks names ByMotion field = is_some (is_so field)
takes clerks names Cause field = is_some (is_so field)
takes clerks names Neglect field = is_some (is_so field)
takes clerks names Need field = is_some (need_of field)
takes clerks names Holidays field = is_some (list_of field)
takes clerks names From field = is_some (minute_of_text field)
takes clerks names To field = is_some (ending_minute field)
takes clerks names Judge field = true
takes clerks names Judges field = is_some (panel_named names.judges field)
takes clerks names Room field = true
takes clerks names Slots field = is_some (slots_of field)
takes clerks names Notice field = is_some (day_of_text field)
takes clerks names Act field = is_some (act_of field)
takes clerks names Dated field = is_some (day_of_text field)
takes clerks names Why field = is_some (ending_of field)
takes clerks names Closing field = is_some (closing_of field)
takes clerks names ResumeDay field = is_some (day_if_given field)
takes clerks names Ruling field = is_some (ruling_of field)
takes clerks names JudgeOrNone field = true
takes clerks names Title field = is_some (text_length field)
takes clerks names Counted field = is_some (counted_of field)
takes clerks names Number field = is_some (number_of field)
takes clerks names Label field = is_some (text_length field)

module _ (clerks : ℕ) (names : CourtNames) (fields : List (List ℕ)) where
  -- the number of the first column that doesn't take its field, of columns the first of which has this number
  unfoldable pub first_untaken : (number : ℕ) → List Column → Option ℕ
  first_untaken number [] = None
  first_untaken number (kind ∷ columns) = if takes clerks names kind (column fields number) then first_untaken (number + 1) columns else Some number

  -- what is wrong with a row of this form
  abbrev pub fault_in_form : Option Form → Option RowCause
  fault_in_form None = Some UnknownCommand
  fault_in_form (Some form) =
      if not (length fields == length (columns_of_form form)) then Some WrongCount
      else option_map BadField (first_untaken 1 (columns_of_form form))

  -- what is wrong with a row whose command word names this form in a table, if it names one: the first in this order
  abbrev pub fault_by_table : Option Form → Option RowCause
  fault_by_table form =
      if not (list_all is_utf8 fields) then Some NotText
      else if nat_lt (length fields) 2 then Some WrongCount
      else if not (takes clerks names Clerk (column fields 1)) then Some BadClerk
      else fault_in_form form

-- what is wrong with a row, as it was read
abbrev pub fault_of : {A : Type 0} → Result A RowCause → Option RowCause
fault_of (Ok x) = None
fault_of (Err cause) = Some cause

-- A row is refused for what the table of forms says, and for nothing else: at the desk by its table, and by clerk_office by its own.
pub record RowsFollowTheTable : Type 0 where
  pub desk : (clerks : ℕ) (names : CourtNames) (fields : List (List ℕ)) → fault_of (row_of clerks names fields) ≡ fault_by_table clerks names fields (form_of (column fields 2))
  pub office : (clerks : ℕ) (names : CourtNames) (fields : List (List ℕ)) → fault_of (office_row_of clerks names fields) ≡ fault_by_table clerks (office_names names) fields (office_form_of (column fields 2))

-- A column whose field may be empty takes an empty field.
abbrev pub EmptyFieldsAreTaken : Type 0
EmptyFieldsAreTaken = (kind : Column) (clerks : ℕ) (names : CourtNames) → may_be_empty kind ≡ true → takes clerks names kind [] ≡ true

-- Such a column is shown in brackets, and no other is.
abbrev pub BracketsShowWhatMayBeEmpty : Type 0
BracketsShowWhatMayBeEmpty = (kind : Column) → starts_with nat_eq (mark_of [] kind) (codes "[") ≡ may_be_empty kind
