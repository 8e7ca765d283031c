-- Texts that don't begin or end with some bytes.
use Rattle.std.proofs.Common.{◌≡◌, ◌≢◌, ◌++◌, ℕ, false, List, eqb, refl, inl, inr}
use Rattle.std.specs.List.{ends_with, starts_with}
use Rattle.std.proofs.lemmas.Bool.{cases_Bool}
use Rattle.std.proofs.lemmas.Bool.Decides.{Decides-eqb}
use Rattle.std.proofs.lemmas.Slice.Eq.{ends_is, starts_is}

-- a text that is no front followed by these bytes doesn't end with them
pub ends_with-none : (text suffix : List ℕ) → ((front : List ℕ) → text ≢ front ++ suffix) → ends_with eqb text suffix ≡ false
ends_with-none text suffix none =
    elim (cases_Bool (ends_with eqb text suffix)) [
      | inl ends ↦ absurd (none _ ((ends_is Decides-eqb text suffix (ends_with eqb text suffix) refl).0 ends))
      | inr other ↦ other
    ]

-- a text that isn't these bytes followed by a rest doesn't begin with them
pub starts_with-none : (text prefix : List ℕ) → ((rest : List ℕ) → text ≢ prefix ++ rest) → starts_with eqb text prefix ≡ false
starts_with-none text prefix none =
    elim (cases_Bool (starts_with eqb text prefix)) [
      | inl starts ↦ absurd (none _ ((starts_is Decides-eqb text prefix (starts_with eqb text prefix) refl).0 starts))
      | inr other ↦ other
    ]
