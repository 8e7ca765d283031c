-- The words of clauses and definitions, for the crates above, from one place.
unfoldable pub use Rattle.desk_numbers.specs.Strikes.Line.{remark_in, row_after}
pub use Rattle.desk_numbers.specs.Strikes.SaidText.{Fits, entry_with, letter_of, word_of}
unfoldable pub use Rattle.desk_numbers.specs.Strikes.SaidText.{numeral_of, said_as, said_in, said_text}
pub use Rattle.desk_numbers.specs.Strikes.Strike.{strike_line, strike_mark}
unfoldable pub use Rattle.desk_numbers.specs.Strikes.Strike.{strike_entry, strike_in}
pub use Rattle.desk_numbers.specs.Strikes.Restore.{restore_line, restore_mark}
unfoldable pub use Rattle.desk_numbers.specs.Strikes.Restore.{restore_entry, restore_in}
pub use Rattle.desk_numbers.specs.Strikes.Corrections.{CorrectionsView, all_before, is_among, is_struck, no_corrections, struck_without}
unfoldable pub use Rattle.desk_numbers.specs.Strikes.Corrections.{struck_with}
pub use Rattle.desk_numbers.specs.Strikes.Laws.{ARestoreUndoesItsStrike, NoEntryIsBoth, NumbersAreReadBack, RestoresAreReadBack, StrikesAreReadBack}
