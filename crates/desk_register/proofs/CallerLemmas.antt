-- The lemmas for the crates above.
pub use Rattle.desk_register.proofs.CaseLemmas.{cases_of-row, nothing_special, other_lines}
pub use Rattle.desk_register.proofs.DecidedLemmas.{first_run, run_by-more, run_by-none, run_by-note, run_by-struck}
pub use Rattle.desk_register.proofs.EntryLemmas.{is_no_note, its_name, left_follows, past_its_name, plain_none, plain_one, says_its_row}
pub use Rattle.desk_register.proofs.GivenLemmas.{at_before, at_end, rows_keep}
pub use Rattle.desk_register.proofs.HistoryLemmas.{first_history, history_more, left_history, note_follows, row_follows, stands_after_note, stands_after_row}
pub use Rattle.desk_register.proofs.ListLemmas.{before-note, before-row, before_strike, begun_batch, file_noted, first_batch, length_batch, next_number-few, next_number-note, next_number-row, no_rows_first, none_struck, not_struck, other_of, parts_at, row_entries-more, row_entries-note, same_of, some_first, standing_file-file, standing_file-more, standing_first, struck_in-more, take_batch}
pub use Rattle.desk_register.proofs.NoteLemmas.{none_if, some_if}
pub use Rattle.desk_register.proofs.SaidLemmas.{kept_in-more, none_kept}
pub use Rattle.desk_register.proofs.StrikingLemmas.{restore_said_again, strike_said_again}
