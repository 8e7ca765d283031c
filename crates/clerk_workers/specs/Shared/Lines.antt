-- The text of a clerk's answers, one after another.
use Rattle.std.specs.Prelude.{◌≡◌, ◌≤◌, ℕ, List, [], ◌∷◌, ◌++◌, length}
use Rattle.court_days.specs.Words.{CourtView}
use Rattle.clerk_workers.specs.declared.answer.SharedReply.{SharedReply}
use Rattle.clerk_workers.specs.Shared.Text.{row_text}

-- the bytes of some texts, one after another, and how many bytes each of them has
pub record TextsView : Type 0 where
  pub bytes : List ℕ
  pub lens : List ℕ

-- what contracts see of a clerk's lines: whose court they are of, and the texts of the answers
pub record LinesView : Type 0 where
  pub court : CourtView
  pub texts : TextsView

-- no more bytes, and no more texts, are handed over than there are
pub record AreWithin (place at : ℕ) (bytes lens : List ℕ) : Type 0 where
  pub of_bytes : place ≤ length bytes
  pub of_lens : at ≤ length lens

module _ (court : CourtView) where
  -- the texts of answers, one after another
  abbrev pub texts_of : List SharedReply → List ℕ
  texts_of [] = []
  texts_of (answer ∷ answers) = row_text court answer ++ texts_of answers

  -- how many bytes each of them has
  abbrev pub lens_of : List SharedReply → List ℕ
  lens_of [] = []
  lens_of (answer ∷ answers) = length (row_text court answer) ∷ lens_of answers

  -- the texts are those of these answers
  pub record HoldTexts (texts : TextsView) (answers : List SharedReply) : Type 0 where
    pub bytes_are : texts.bytes ≡ texts_of answers
    pub lens_are : texts.lens ≡ lens_of answers

  -- the lines are of this court, and have the texts of these answers
  pub record HoldLines (lines : LinesView) (answers : List SharedReply) : Type 0 where
    pub of_court : lines.court ≡ court
    pub held : HoldTexts lines.texts answers
