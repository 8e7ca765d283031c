-- The words of clauses and definitions, for the crates above, from one place.
pub use Rattle.desk_numbers.specs.Kept.{kept_of}
pub use Rattle.desk_numbers.specs.Called.{CalledView, TextsView, TheLastTextCounts, calls, label_of, title_of}
unfoldable pub use Rattle.desk_numbers.specs.Called.{with_called}
pub use Rattle.desk_numbers.specs.Said.{AllGave, WhatIsSaidIsKept, extended, keeps, said_of, with_said}
unfoldable pub use Rattle.desk_numbers.specs.Said.{kept_with, unsaid, with_all}
pub use Rattle.desk_numbers.specs.Numbers.{NumbersView, new_number, no_numbers, number_for, own_or, passed, with_number}
unfoldable pub use Rattle.desk_numbers.specs.Given.{given_by}
unfoldable pub use Rattle.desk_numbers.specs.Numbers.{numbers_after}
unfoldable pub use Rattle.desk_numbers.specs.Numbered.{numbered, placed}
pub use Rattle.desk_numbers.specs.Moved.{is_apart, is_at, is_moved, number_of, place_apart}
unfoldable pub use Rattle.desk_numbers.specs.Moved.{number_in}
pub use Rattle.desk_numbers.specs.Numbered.{numbered_booking, numbered_ended, numbered_refusal, numbered_sheet, numbered_view, placed_command}
pub use Rattle.desk_numbers.specs.Subjects.{found_in}
pub use Rattle.desk_numbers.specs.Given.{last_given}
pub use Rattle.desk_numbers.specs.Laws.{ANumberIsGivenOnce, ARowKeepsItsNumber, NothingMovesAtFirst, NumberAndPlaceGoTogether, OthersAreAtTheirPlaces, WithNoneMovedNothingChanges}
