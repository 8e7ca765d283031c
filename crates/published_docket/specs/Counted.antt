-- The word that counts the entries of a history, and what its one step says.
use Rattle.std.specs.Prelude.{◌≡◌, ℕ, ◌==◌, true, List, [], ◌∷◌, ◌++◌, length, MatchBool}
use Rattle.logbook.specs.Pages.{Cell, Step, View, Book, Named}
use Rattle.docket_rows.specs.declared.answer.Answer.{Answer}
use Rattle.docket_rows.specs.declared.command.Command.{Command}
use Rattle.versioned_steps.specs.declared.entry.Entry.{Entry}

-- the first word is the length of the history; a book has two words, of which this one leaves the second at 0
pub record IsCounted (cells : List Cell) (log : List (Entry Command Answer)) : Type 0 where
  pub words : cells ≡ (length log, true) ∷ (0, true) ∷ []

abbrev pub head_of : Book → Named
head_of b = record { tracked = true; key = 0; book = b }

-- where the word was as expected, the entry was added to what had been seen; else the history was seen, and is as long as the word says
abbrev pub Adds : Step (Entry Command Answer) → View (Entry Command Answer) ℕ → ℕ → View (Entry Command Answer) ℕ → Type 0
Adds s v found w = MatchBool (found == s.old) (w.0 ≡ v.0 ++ s.ask ∷ []) (length w.0 ≡ found)
