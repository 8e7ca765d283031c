-- A draft's copies and notes, and its reads.
use Rattle.std.proofs.Common.{◌≡◌, suc, List, [], ◌∷◌, ◌++◌, length, refl, ap, arith}
use Rattle.versioned_steps.specs.Reads.{copies_of}
use Rattle.versioned_steps.specs.Drafts.{with_notes}
use Rattle.versioned_steps.specs.declared.draft.ReadNote.{ReadNote}

-- with a note for each copy, the reads have the copies
pub copies_of_noted : {Part Value : Type 0} → (copies : List (Part × Value)) (notes : List ReadNote) → length copies ≡ length notes → copies_of (with_notes copies notes) ≡ copies
copies_of_noted [] notes same = refl
copies_of_noted (x ∷ xs) [] same = absurd (omega arith)
copies_of_noted (x ∷ xs) (m ∷ ms) same = ap (λ rest. x ∷ rest) (copies_of_noted xs ms (omega arith))

-- one more copy with its note is one more read
pub with_notes_push : {Part Value : Type 0} → (copies : List (Part × Value)) (notes : List ReadNote) (x : Part × Value) (m : ReadNote) → length copies ≡ length notes
    → with_notes (copies ++ x ∷ []) (notes ++ m ∷ []) ≡ with_notes copies notes ++ record { part = x.0; value = x.1; version = m.version; at = m.at } ∷ []
with_notes_push [] [] x m same = refl
with_notes_push [] (n ∷ ms) x m same = absurd (omega arith)
with_notes_push (y ∷ xs) [] x m same = absurd (omega arith)
with_notes_push (y ∷ xs) (n ∷ ms) x m same = ap (λ rest. record { part = y.0; value = y.1; version = n.version; at = n.at } ∷ rest) (with_notes_push xs ms x m (omega arith))

-- as many reads as notes
pub length_with_notes : {Part Value : Type 0} → (copies : List (Part × Value)) (notes : List ReadNote) → length copies ≡ length notes → length (with_notes copies notes) ≡ length notes
length_with_notes [] [] same = refl
length_with_notes [] (m ∷ ms) same = absurd (omega arith)
length_with_notes (x ∷ xs) [] same = absurd (omega arith)
length_with_notes (x ∷ xs) (m ∷ ms) same = ap (λ n. suc n) (length_with_notes xs ms (omega arith))
