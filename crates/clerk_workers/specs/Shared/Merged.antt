-- The lines of all clerks, put into the order of the rows.
use Rattle.std.specs.Prelude.{◌≡◌, ℕ, zero, suc, ◌+◌, ◌-◌, List, [], ◌∷◌, ◌++◌, drop, length, map, take}
use Rattle.court_days.specs.Words.{CourtView}
use Rattle.row_forms.specs.declared.row.Row.{Row}
use Rattle.office_texts.specs.Run.Words.{row_numbers}
use Rattle.clerk_workers.specs.declared.answer.SharedReply.{SharedReply}
use Rattle.clerk_workers.specs.Words.{AreMerged}
use Rattle.clerk_workers.specs.Shared.Lines.{LinesView, TextsView}
use Rattle.clerk_workers.specs.Shared.Text.{answer_lines}

abbrev pub first_len : List ℕ → ℕ
first_len [] = 0
first_len (n ∷ lens) = n

-- the first of some texts, and those after it
abbrev pub first_text : TextsView → List ℕ
first_text texts = take (first_len texts.lens) texts.bytes

abbrev pub later_texts : TextsView → TextsView
later_texts texts = record { bytes = drop (length (first_text texts)) texts.bytes; lens = drop 1 texts.lens }

-- the next text of the clerk at a place, counted from 0, and what is left of all clerks' texts after it
unfoldable pub next_text : (place : ℕ) → List TextsView → List ℕ
next_text place [] = []
next_text zero (texts ∷ left) = first_text texts
next_text (suc place) (texts ∷ left) = next_text place left

unfoldable pub texts_after : (place : ℕ) → List TextsView → List TextsView
texts_after place [] = []
texts_after zero (texts ∷ left) = later_texts texts ∷ left
texts_after (suc place) (texts ∷ left) = texts ∷ texts_after place left

-- the lines of rows, the first of which has that number: the numbers of each, and the next text of its clerk
unfoldable pub merged_lines : (number : ℕ) → List Row → List TextsView → List ℕ
merged_lines number [] left = []
merged_lines number (row ∷ rows) left =
    (row_numbers number row.clerk ++ next_text (row.clerk - 1) left) ++ merged_lines (number + 1) rows (texts_after (row.clerk - 1) left)

-- the lines of all rows, where all clerks' lines are these, and then the closing text
abbrev pub shared_text : List Row → List LinesView → (closing : List ℕ) → List ℕ
shared_text rows lines closing = merged_lines 1 rows (map (λ (each : LinesView). each.texts) lines) ++ closing

-- the text has the answer to each row in turn, where each clerk was given the answers of its list
pub record IsMergedText (court : CourtView) (rows : List Row) (lists : List (List SharedReply)) (text : List ℕ) : Type 0 where
  pub answers : List SharedReply
  pub as_many : length answers ≡ length rows
  pub merged : AreMerged rows lists answers
  pub text_is : text ≡ answer_lines court 1 rows answers
