-- The earliest of some ends, and a line for each.
use Rattle.std.proofs.Common.{◌≡◌, ◌↔◌, ℕ, List, [], ◌∷◌, ◌++◌, fold, map, Option, Some, None, inl, inr, refl}
use Rattle.std.specs.List.{flat_map}
use Rattle.std.proofs.lemmas.Bool.{cases_Bool}
use Rattle.court_clock.specs.Words.{ClockView}
use Rattle.rule6.specs.declared.timeliness.Shown.{Shown}
use Rattle.reason_texts.specs.Words.{note_line}
use Rattle.reason_notes.specs.declared.readings.reading.Reading.{Reading}
use Rattle.reason_notes.specs.Readings.Earlier.{earlier_of, is_earlier}
use Rattle.reason_notes.specs.Readings.Lines.{line_of}
use Rattle.reason_notes.specs.Readings.Others.{earliest_of}

-- where there is an end, there is an earliest
some_stays : (clock : ClockView) (end : Shown) (ends : List (Option Shown)) → fold (earlier_of clock) (Some end) ends ≡ None → ⊥
some_stays clock end [] is = absurd cc
some_stays clock end (None ∷ ends) is = some_stays clock end ends is
some_stays clock end (Some other ∷ ends) is = elim (cases_Bool (is_earlier clock other end)) [
  | inl before ↦ some_stays clock other ends (rw before at is)
  | inr after ↦ some_stays clock end ends (rw after at is)
]

one : (clock : ClockView) (reading : Reading) (end : Option Shown) (ends : List (Option Shown)) (lines : List ℕ) → ((earliest_of clock ends ≡ None) ↔ (lines ≡ [])) → (earliest_of clock (end ∷ ends) ≡ None) ↔ (line_of clock reading end ++ lines ≡ [])
unfolding note_line
one clock reading None ends lines same = same
one clock reading (Some end) ends lines same = (λ is. absurd (some_stays clock end ends is), λ is. absurd cc)

pub none_lined : (clock : ClockView) (gives : Reading → Option Shown) (readings : List Reading) → (earliest_of clock (map gives readings) ≡ None) ↔ (flat_map (λ reading. line_of clock reading (gives reading)) readings ≡ [])
none_lined clock gives [] = (λ is. refl, λ is. refl)
none_lined clock gives (reading ∷ readings) =
    one clock reading (gives reading) (map gives readings) (flat_map (λ r. line_of clock r (gives r)) readings) (none_lined clock gives readings)
