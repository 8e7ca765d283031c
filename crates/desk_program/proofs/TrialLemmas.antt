-- The copy on which a trial is made.
use Rattle.std.proofs.Common.{◌≡◌, ◌∙◌, ◌<◌, ℕ, List, [], ◌∷◌, get_or, length, refl, sym, ap, arith, zero-add}
use Rattle.std.proofs.lemmas.List.{ext_get_or}
use Rattle.sqlite_disk.specs.Disk.{Holds, Torn}

-- a copy of a file on a disk that was empty
pub copied_whole : (file before after : List ℕ) → before ≡ [] → Torn 0 (length file) before after → (0 < length file → Holds after 0 file) → after ≡ file
copied_whole [] before [] empty torn holds = refl
copied_whole [] before (byte ∷ after) empty torn holds = absurd (omega (arith, torn.no_longer, ap length empty))
copied_whole (byte ∷ file) before after empty torn holds =
    let held = holds (omega arith) in
    ext_get_or 0 after (byte ∷ file) (omega (arith, torn.no_longer, held.within, ap length empty)) (λ i inside. ap (λ (k : ℕ). get_or after k 0) (sym (zero-add i)) ∙ held.each i (omega (arith, inside, torn.no_longer, held.within, ap length empty)))
