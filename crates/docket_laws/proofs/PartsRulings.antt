-- The parts after a motion is ruled on: one more fact of its case, and a later hearing of it taken out.
use Rattle.std.proofs.Common.{◌≡◌, ℕ, ℤ, int_lt, Bool, true, false, ◌==◌, is_some, [], find, AllPairs, Option, Some, None, option_map, option_and_then, unwrap_or, if◌then◌else◌, refl, ap, sym, ◌∙◌, subst, inl, inr}
use Rattle.std.specs.Option.{option_or, option_map_or}
use Rattle.std.proofs.lemmas.Bool.{cases_eq, eq-eqb, ne_eqb}
use Rattle.docket_rows.specs.declared.command.Command.TheVariants as command
use Rattle.docket_rows.specs.declared.fact.Fact.TheVariants.{Ruled}
use Rattle.docket_rows.specs.declared.fact.Ruling.{Ruling}
use Rattle.docket_rows.specs.declared.hearing.Hearing.{Hearing}
use Rattle.docket_rows.specs.Words.{CourtSetup, Rows, DocketedHearing, NumberedMotion, CaseRecordView, AreSound, is_hearing, hearing_of, has_one, if_ahead, parts_of, without_hearing, with_fact, rows_after, changed_by, change_to, add_fact, set_hearing, hearing_set, record_after, case_written}
use Rattle.docket_laws.proofs.PartsCalendars.{calendar, calendar_cancelled}
use Rattle.docket_laws.proofs.PartsCases.{shown_same}
use Rattle.docket_laws.proofs.PartsFacts.{case_with_fact}
use Rattle.docket_laws.proofs.PartsHearings.{case_after_cancel}
use Rattle.docket_laws.proofs.PartsSeen.{hearing_seen}

-- Calendars

module _ (rows : Rows) (case motion : ℕ) (other : Hearing → ℕ) (test : Hearing → Bool) (once : AllPairs (λ (a b : DocketedHearing). is_hearing a.case a.motion b ≡ false) rows.hearings) where
  -- a calendar after this hearing of the motion, if any, is taken out
  abbrev pub CalendarWithout : (taken : Option Hearing) → Type 0
  CalendarWithout taken =
      calendar (record rows { hearings = if is_some taken then (without_hearing case motion rows).hearings else rows.hearings }) other test
      ≡ unwrap_or (changed_by (change_to case motion (has_one test taken) None) (calendar rows other test)) (calendar rows other test)

  calendar_if_ahead : (dated : ℤ) (found : Option Hearing) → hearing_of rows case motion ≡ found → CalendarWithout (if_ahead dated found)
  calendar_if_ahead dated None is = refl
  calendar_if_ahead dated (Some h) is = by (int_lt dated h.day) where
    by : (later : Bool) → CalendarWithout (if later then Some h else None)
    by true =
        let P : Option Hearing → Type 0 = λ o. calendar (without_hearing case motion rows) other test ≡ unwrap_or (changed_by (change_to case motion (has_one test o) None) (calendar rows other test)) (calendar rows other test) in
        subst P is (calendar_cancelled rows case motion other test once)
    by false = refl

  -- a calendar after the motion is ruled on
  pub calendar_ruled : (dated : ℤ) → CalendarWithout (if_ahead dated (hearing_of rows case motion))
  calendar_ruled dated = calendar_if_ahead dated (hearing_of rows case motion) refl

-- Cases

-- two changes of one case, one after the other
two_changes : (f g : CaseRecordView → CaseRecordView) (old mid : Option CaseRecordView) → mid ≡ option_or (option_map f old) old → option_or (option_map g mid) mid ≡ option_or (option_map (λ c. g (f c)) old) old
two_changes f g None mid is = ap (λ o. option_or (option_map g o) o) is
two_changes f g (Some c) mid is = ap (λ o. option_or (option_map g o) o) is

pub changed_twice : (old mid new : ℕ → Option CaseRecordView) (case : ℕ) (f g : CaseRecordView → CaseRecordView) → ((n : ℕ) → mid n ≡ option_or (if n == case then option_map f (old n) else None) (old n)) → ((n : ℕ) → new n ≡ option_or (if n == case then option_map g (mid n) else None) (mid n)) → (n : ℕ) → new n ≡ option_or (if n == case then option_map (λ c. g (f c)) (old n) else None) (old n)
changed_twice old mid new case f g first second n = by (n == case) (first n) (second n) where
  by : (here : Bool) → mid n ≡ option_or (if here then option_map f (old n) else None) (old n) → new n ≡ option_or (if here then option_map g (mid n) else None) (mid n) → new n ≡ option_or (if here then option_map (λ c. g (f c)) (old n) else None) (old n)
  by true one two = two ∙ two_changes f g (old n) (mid n) one
  by false one two = two ∙ one

-- two changes that do the same to the case as it is
same_change : (old : ℕ → Option CaseRecordView) (case : ℕ) (f g : CaseRecordView → CaseRecordView) → ((c : CaseRecordView) → old case ≡ Some c → f c ≡ g c) → (n : ℕ) → option_or (if n == case then option_map f (old n) else None) (old n) ≡ option_or (if n == case then option_map g (old n) else None) (old n)
same_change old case f g same n = elim (cases_eq n case) [
  | inl here ↦
      let test : (n == case) ≡ true = eq-eqb n case here in
      rw (test, here) (ap (λ o. option_or o (old case)) (shown_same f g (old case) same))
  | inr other ↦
      let test : (n == case) ≡ false = ne_eqb n case other in
      rw test refl
]

module _ (setup : CourtSetup) (rows : Rows) (sound : AreSound setup rows) (case motion : ℕ) (how : Ruling) (dated : ℤ) where
  -- the hearing that the case shows of the motion is that of the rows
  hearing_shown : (c : CaseRecordView) → (parts_of rows).case case ≡ Some c → hearing_set motion c ≡ hearing_of rows case motion
  hearing_shown c found =
      let P : Option CaseRecordView → Type 0 = λ o. option_and_then (λ (m : NumberedMotion). m.hearing) (find (λ (m : NumberedMotion). m.number == motion) (option_map_or (λ (r : CaseRecordView). r.motions) o [])) ≡ hearing_of rows case motion in
      subst P found (hearing_seen setup rows sound case motion)

  abbrev recorded : Rows
  recorded = with_fact case (Ruled motion how dated) rows

  -- what is taken out of the case is what is taken out of the rows
  same_taken : (taken : Option Hearing) → if_ahead dated (hearing_of rows case motion) ≡ taken → (c : CaseRecordView) → (parts_of rows).case case ≡ Some c → (if is_some taken then set_hearing motion None (add_fact (Ruled motion how dated) c) else add_fact (Ruled motion how dated) c) ≡ record_after (command.Fact case (Ruled motion how dated)) c
  same_taken taken is c found =
      let with_it = add_fact (Ruled motion how dated) c in
      ap (λ (o : Option Hearing). if is_some o then set_hearing motion None with_it else with_it) (sym (ap (if_ahead dated) (hearing_shown c found) ∙ is))

  -- the cases after this hearing of the motion, if any, is taken out
  case_without : (taken : Option Hearing) → if_ahead dated (hearing_of rows case motion) ≡ taken → (n : ℕ) → (parts_of (record recorded { hearings = if is_some taken then (without_hearing case motion recorded).hearings else recorded.hearings })).case n ≡ option_or (case_written (parts_of rows) (command.Fact case (Ruled motion how dated)) n) ((parts_of rows).case n)
  case_without None is n =
      case_with_fact rows case (Ruled motion how dated) n
      ∙ same_change (parts_of rows).case case (add_fact (Ruled motion how dated)) (record_after (command.Fact case (Ruled motion how dated))) (same_taken None is) n
  case_without (Some h) is n =
      changed_twice (parts_of rows).case (parts_of recorded).case (parts_of (without_hearing case motion recorded)).case case (add_fact (Ruled motion how dated)) (set_hearing motion None) (case_with_fact rows case (Ruled motion how dated)) (case_after_cancel recorded case motion) n
      ∙ same_change (parts_of rows).case case (λ c. set_hearing motion None (add_fact (Ruled motion how dated) c)) (record_after (command.Fact case (Ruled motion how dated))) (same_taken (Some h) is) n

  -- the cases after the motion is ruled on
  pub case_after_ruling : (n : ℕ) → (parts_of (rows_after rows (command.Fact case (Ruled motion how dated)))).case n ≡ option_or (case_written (parts_of rows) (command.Fact case (Ruled motion how dated)) n) ((parts_of rows).case n)
  case_after_ruling n = case_without (if_ahead dated (hearing_of rows case motion)) refl n
