-- The texts of a clerk's answers, and one more.
use Rattle.std.proofs.Common.{◌≡◌, ℕ, ◌++◌, List, [], ◌∷◌, length, refl, ap, sym, ◌∙◌, append_assoc, append-nil}
use Rattle.court_days.specs.Words.{CourtView}
use Rattle.clerk_workers.specs.declared.answer.SharedReply.{SharedReply}
use Rattle.clerk_workers.specs.Shared.Lines.{HoldTexts, lens_of, texts_of}
use Rattle.clerk_workers.specs.Shared.Text.{row_text}

module _ (court : CourtView) where
  texts_push : (answers : List SharedReply) (answer : SharedReply) → texts_of court (answers ++ answer ∷ []) ≡ texts_of court answers ++ row_text court answer
  texts_push [] answer = append-nil (row_text court answer)
  texts_push (a ∷ answers) answer =
      ap (λ (t : List ℕ). row_text court a ++ t) (texts_push answers answer) ∙ sym (append_assoc (row_text court a) (texts_of court answers) (row_text court answer))

  lens_push : (answers : List SharedReply) (answer : SharedReply) → lens_of court (answers ++ answer ∷ []) ≡ lens_of court answers ++ length (row_text court answer) ∷ []
  lens_push [] answer = refl
  lens_push (a ∷ answers) answer = ap (λ (l : List ℕ). length (row_text court a) ∷ l) (lens_push answers answer)

  -- lines with the text of one more answer
  pub texts_more : (bytes lens text : List ℕ) (answers : List SharedReply) (answer : SharedReply) → HoldTexts court (record { bytes = bytes; lens = lens }) answers → text ≡ row_text court answer → HoldTexts court (record { bytes = bytes ++ text; lens = lens ++ length text ∷ [] }) (answers ++ answer ∷ [])
  texts_more bytes lens text answers answer held is = record {
    bytes_are = ap (λ (t : List ℕ). t ++ text) held.bytes_are ∙ (ap (λ (t : List ℕ). texts_of court answers ++ t) is ∙ sym (texts_push answers answer));
    lens_are = ap (λ (l : List ℕ). l ++ length text ∷ []) held.lens_are ∙ (ap (λ (t : List ℕ). lens_of court answers ++ length t ∷ []) is ∙ sym (lens_push answers answer));
  }
