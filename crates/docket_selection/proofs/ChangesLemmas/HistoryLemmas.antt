-- What is noted of changes, one change more.
use Rattle.std.proofs.Common.{◌≡◌, ◌∙◌, ℕ, Option, Some, if◌then◌else◌, refl, sym, ap₂, inl, inr, arith}
use Rattle.std.specs.HashMap.{HashMap}
use Rattle.std.proofs.lemmas.Bool.{cases_Bool}
use Rattle.docket_selection.specs.declared.changes.change.HearingChange.{HearingChange}
use Rattle.docket_selection.specs.declared.changes.history.HearingHistory.{HearingHistory}
use Rattle.docket_selection.specs.Changes.History.{changed_to, followed, is_of}
use Rattle.docket_selection.specs.Changes.Noted.{noted}

-- one change more of a hearing is noted
pub followed_is : {S : Type 0} (judge : Option ℕ) (old new : HashMap (ℕ × ℕ) HearingHistory S) (change : HearingChange) (after : HearingHistory) (case motion : ℕ) → changed_to judge (noted change.case change.motion old) change.hearing ≡ Some after → noted case motion new ≡ (if is_of case motion change then Some after else noted case motion old) → noted case motion new ≡ followed judge case motion (noted case motion old) change
followed_is judge old new change after case motion is updated = elim (cases_Bool (is_of case motion change)) [
  | inl own ↦
      let one : change.case ≡ case = grind arith in
      let two : change.motion ≡ motion = grind arith in
      updated ∙ rw own (sym is ∙ ap₂ (λ c m. changed_to judge (noted c m old) change.hearing) one two)
  | inr other ↦ updated ∙ rw other refl
]
