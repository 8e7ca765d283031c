-- The one history of an office, and its beginnings.
use Rattle.std.specs.Prelude.{◌≡◌, List}
use mathlib.Core.List.{IsPrefix}
use Rattle.logbook.specs.Pages.{Book}
use Rattle.docket_rows.specs.declared.answer.Answer.{Answer}
use Rattle.docket_rows.specs.declared.command.Command.{Command}
use Rattle.versioned_steps.specs.declared.entry.Entry.{Entry}

-- entries that were seen of a history; the book says of which
pub record TrailView : Type 0 where
  pub book : Book
  pub log : List (Entry Command Answer)

abbrev pub trail_view : Book → List (Entry Command Answer) → TrailView
trail_view book log = record { book = book; log = log }

-- the two are of one history, and the later begins with the earlier
pub record IsBeginning (earlier later : TrailView) : Type 0 where
  pub book : later.book ≡ earlier.book
  pub log : IsPrefix earlier.log later.log
