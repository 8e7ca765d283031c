-- The lemmas for the crates above: also those of the register.
pub use Rattle.desk_register.proofs.CallerLemmas.{begun_batch, first_history, history_more, length_batch, next_number-few, next_number-note, next_number-row, no_rows_first, restore_said_again, row_entries-more, strike_said_again, take_batch}
pub use Rattle.desk_entries.proofs.DocketedLemmas.{docketed_note, first_docketed, left_docketed, note_may_follow}
pub use Rattle.desk_entries.proofs.ExportLemmas.{rows_written-append}
pub use Rattle.desk_entries.proofs.ReportedLemmas.{of_the_docket}
pub use Rattle.desk_entries.proofs.PastLemmas.{none_counted, number_more, one_counted}
