-- The words for the crates above, from one place.
pub use Rattle.desk_register.specs.Entries.{Note, can_restore, can_strike, court_file, court_mark, file_with, kept_as, kept_in, later_file, most_clerks, most_entries, most_rows, next_number, note_in, note_of, row_entries, row_only, row_restored, row_struck, rows_with, standing_file, struck_by, struck_in}
unfoldable pub use Rattle.desk_register.specs.Entries.{file_after, rows_among}
pub use Rattle.desk_register.specs.Run.{Run, corrections_then, docketed_by, docketed_with, numbers_with, opening_run, reply_by_places, reply_under, run_entry, run_past, run_said, run_with, unsaid_by}
unfoldable pub use Rattle.desk_register.specs.Run.{run_after, run_by}
pub use Rattle.desk_register.specs.Rows.{IsReadAt, asks, came_of, cased_at, entry_of, follows, has_room, left_again, outcome_by, outcome_of, reading_at, row_in, told_of, told_or, too_many_at, with_name, within}
unfoldable pub use Rattle.desk_register.specs.Rows.{answer_to, answers, kept_answers, leaves, outcome, plain_answers, plain_leaves, rows_in}
pub use Rattle.desk_register.specs.Cases.{opened_in, with_opened}
unfoldable pub use Rattle.desk_register.specs.Cases.{cases_after, cases_of}
pub use Rattle.desk_register.specs.Shifts.{OthersAreToldTheirAnswers, RefusedAreToldTheirAnswers, changes_days, shifts, shifts_by, shifts_said, shifts_since}
unfoldable pub use Rattle.desk_register.specs.Shifts.{told}
pub use Rattle.desk_register.specs.CaseLines.{Reading, as_it_is, lacks_field, with_suspender}
unfoldable pub use Rattle.desk_register.specs.CaseLines.{opens_too_many, reading_of}
pub use Rattle.desk_register.specs.Subjects.{before_number}
unfoldable pub use Rattle.desk_register.specs.Subjects.{named_in}
pub use Rattle.desk_register.specs.Called.{called_standing}
pub use Rattle.desk_register.specs.LineCauses.{cause_as, fault_told, line_cause_text, unfound_words}
unfoldable pub use Rattle.desk_register.specs.LineCauses.{too_many_words}
pub use Rattle.desk_register.specs.History.{CanBe, IsHistory, MayFollow, SaysCourt, SaysNumbers, StandsAfter}
pub use Rattle.desk_register.specs.Register.{IsReadyAt, StandsAt, entries_taken, number_of_next}
pub use Rattle.desk_register.specs.Differences.{Change, IsOtherwise, change_as, change_in, is_left}
pub use Rattle.desk_register.specs.Laws.{ACaseKeepsItsNumber, ACaseNumberIsOneCase, AStruckRowIsLeftOut, FaultlessLinesSayRows, HasNoFault, KeepsNumber, OtherLinesAreReadAsTheyAre, RowsKeepTheirNumbers, WhatIsLeftFollows, WhatIsLeftIsHistory}
unfoldable pub use Rattle.desk_register.specs.Laws.{AllSayRows}
pub use Rattle.desk_register.specs.Questions.{AsksOf, command_text}
unfoldable pub use Rattle.desk_register.specs.Questions.{came_shown, shown}
pub use Rattle.desk_register.specs.LineFaults.{FaultyLine, fault_in, left_before}
unfoldable pub use Rattle.desk_register.specs.LineFaults.{faults_of}
pub use Rattle.desk_register.specs.Striking.{entry_at}
unfoldable pub use Rattle.desk_register.specs.Striking.{restore_for, strike_for}
