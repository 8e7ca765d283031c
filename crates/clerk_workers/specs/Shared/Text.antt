-- The text of a run of several clerks: an answer to each row, then the sheets and the calendars of the journal's docket.
use Rattle.std.specs.Prelude.{◌≡◌, ℕ, ◌+◌, List, [], ◌∷◌, ◌++◌, codes}
use Rattle.court_days.specs.Words.{CourtView}
use Rattle.docket_rows.specs.Words.{setup_of, parts_of}
use Rattle.shared_docket.specs.Words.{rows_of}
use Rattle.row_forms.specs.declared.row.Row.{Row}
use Rattle.office_texts.specs.Words.{answer_text, view_lines}
use Rattle.office_texts.specs.Run.Words.{row_numbers, closing_text}
use Rattle.clerk_workers.specs.declared.answer.SharedReply.{SharedReply}
use Rattle.clerk_workers.specs.declared.answer.SharedReply.TheVariants.{Made, JournalFull, Viewed}
use Rattle.clerk_workers.specs.Words.{History}
use Rattle.clerk_workers.specs.Shared.Run.{IsSharedRun}

-- the text of an answer, with the ends of its lines
abbrev pub row_text : CourtView → SharedReply → List ℕ
row_text court (Made done) = answer_text court.clock done.answer ++ 10 ∷ []
row_text court JournalFull = codes "journal full" ++ 10 ∷ []
row_text court (Viewed view) = view_lines court view

-- the answer to a row: the number of the row, counted from 1, the number of its clerk, and the text
unfoldable pub answer_line : CourtView → (number clerk : ℕ) → SharedReply → List ℕ
answer_line court number clerk answer = row_numbers number clerk ++ row_text court answer

-- the answers to rows, the first of which has that number
unfoldable pub answer_lines : CourtView → (number : ℕ) → List Row → List SharedReply → List ℕ
answer_lines court number [] answers = []
answer_lines court number (row ∷ rows) [] = []
answer_lines court number (row ∷ rows) (answer ∷ answers) =
    answer_line court number row.clerk answer ++ answer_lines court (number + 1) rows answers

-- the text of some run of these clerks, whose journal takes no more entries than the limit
pub record IsSharedText (court : CourtView) (clerks limit : ℕ) (rows : List Row) (text : List ℕ) : Type 0 where
  pub answers : List SharedReply
  pub journal : History
  pub run : IsSharedRun (setup_of court) clerks limit rows answers journal
  pub text_is : text ≡ answer_lines court 1 rows answers ++ closing_text court (parts_of (rows_of (setup_of court) journal))
