-- The words for the crates above, from one place: also those of the register.
pub use Rattle.desk_register.specs.Words.{CanBe, Change, FaultyLine, IsHistory, IsReadyAt, Note, SaysCourt, SaysNumbers, StandsAfter, StandsAt, change_as, change_in, corrections_then, court_file, docketed_by, entry_at, fault_in, file_with, is_left, later_file, left_again, line_cause_text, most_clerks, most_entries, next_number, note_in, note_of, row_entries, row_only, row_restored, row_struck, standing_file, struck_by, unfound_words, unsaid_by}
unfoldable pub use Rattle.desk_register.specs.Words.{came_shown, cases_of, faults_of, kept_answers, restore_for, run_by, shown, strike_for, too_many_words}
pub use Rattle.desk_entries.specs.Review.{changes_by}
unfoldable pub use Rattle.desk_entries.specs.Review.{changes_after}
pub use Rattle.desk_entries.specs.Docketed.{AreHistory, HasDocketFault, HasFault, HasHistoryFault, IsDocketed}
pub use Rattle.desk_entries.specs.Follow.{GoingOnIsOpeningAnew, StandForTheSame, are_rows, goes_on}
pub use Rattle.desk_entries.specs.Laws.{ARestoreLeavesTheDocket, AnswersAreTheRuns, RowsAreWrittenAsTheyAre, plain}
unfoldable pub use Rattle.desk_entries.specs.Export.{row_written, rows_written}
pub use Rattle.desk_register.specs.Words.{called_standing}
pub use Rattle.desk_entries.specs.Reported.{ReportsAreOfTheDocket, rows_standing}
unfoldable pub use Rattle.desk_entries.specs.Past.{rows_struck}
pub use Rattle.desk_entries.specs.Past.{corrections_in, rows_refused}
