-- The words of clauses and definitions, for the crates above, from one place.
pub use Rattle.row_forms.specs.CourtNames.{CourtNames, names_if, names_of, office_names}
unfoldable pub use Rattle.row_forms.specs.CourtNames.{number_if_named, number_named}
pub use Rattle.row_forms.specs.Fields.Numbers.{is_number}
unfoldable pub use Rattle.row_forms.specs.Fields.Numbers.{count_of, number_of}
unfoldable pub use Rattle.row_forms.specs.Fields.Period.{length_of, entered_of, period_coded, period_in, period_of}
pub use Rattle.row_forms.specs.Fields.Period.{CodesAreReadBack, SectionCodesAreNew, period_entered, text_meant}
unfoldable pub use Rattle.row_forms.specs.Fields.Times.{day_if_given, ending_minute, minute_or_midnight, slot_at}
unfoldable pub use Rattle.row_forms.specs.Fields.Choices.{closing_of, counted_of, ending_of, is_so, kind_if_given, kind_of, list_of, means_of, ruling_of}
pub use Rattle.row_forms.specs.Fields.Texts.{is_text}
unfoldable pub use Rattle.row_forms.specs.Fields.Texts.{text_length}
unfoldable pub use Rattle.row_forms.specs.Fields.Grants.{grant_of, need_of}
pub use Rattle.row_forms.specs.Fields.Hearings.{joined_names}
unfoldable pub use Rattle.row_forms.specs.Fields.Hearings.{panel_named, slots_of}
pub use Rattle.row_forms.specs.Columns.{column, in_column}
pub use Rattle.row_forms.specs.Forms.Table.{CommandWordsNameForms, columns_of_form, command_word, forms, office_forms}
unfoldable pub use Rattle.row_forms.specs.Forms.Table.{form_of, office_form_of}
pub use Rattle.row_forms.specs.Forms.{RowsAskByTheirWords, fields_as, form_asking, read_as}
unfoldable pub use Rattle.row_forms.specs.Forms.{office_work_of, work_as, work_of}
pub use Rattle.row_forms.specs.Rows.{AnswersRows, in_row, most_rows, numbered_row, row_asking}
unfoldable pub use Rattle.row_forms.specs.Rows.{clerk_of, office_row_of, row_of, rows_read_from, rows_read}
pub use Rattle.row_forms.specs.Records.{MeetsNoText, TakesAnyRow, TakesText, records_left}
pub use Rattle.row_forms.specs.FirstFault.{AreSpelled, FirstFaultIsTold, IsFirstFault}
pub use Rattle.row_forms.specs.Fault.{cause_text}
pub use Rattle.row_forms.specs.Bounds.{IsClerk, IsOfClerk, RowsAreBounded}
pub use Rattle.row_forms.specs.Numbered.{rows_of}
unfoldable pub use Rattle.row_forms.specs.Numbered.{numbered_from}
pub use Rattle.row_forms.specs.Office.{OfficeRowsAreReadAlike, RowsAreOfficeWork, is_office_work}
