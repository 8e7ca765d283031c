-- The cases of the parts after a case is opened.
use Rattle.std.proofs.Common.{◌≡◌, ℕ, ℤ, true, false, ◌==◌, List, [], ◌∷◌, ◌++◌, get_or, find, filter, All, Option, Some, None, IsSome, option_map, if◌then◌else◌, refl, ap, sym, inl, inr, subst}
use Rattle.std.specs.Option.{option_or}
use Rattle.std.proofs.lemmas.Bool.{cases_Bool, cases_eq, false≢true, eqb-true, eq-eqb, ne_eqb}
use Rattle.hearing_slots.proofs.CallerLemmas.{filter_none, find_here, find-Some, find-None}
use Rattle.docket_rows.specs.declared.command.Command.TheVariants.{OpenCase}
use Rattle.docket_rows.specs.Words.{CourtSetup, Rows, DocketedCase, CaseRecordView, AreSound, is_case, is_deadline_in, is_motion_in, is_fact_in, case_shown, parts_of, case_written, rows_after}
use Rattle.docket_laws.proofs.PartsLists.{find-push_other}

-- what is written into one case, where the others stay
pub written_at : (new old written : ℕ → Option CaseRecordView) (case : ℕ) → new case ≡ option_or (written case) (old case) → ((n : ℕ) → (n ≡ case → ⊥) → new n ≡ old n) → (n : ℕ) → new n ≡ option_or (if n == case then written n else None) (old n)
written_at new old written case here others n = elim (cases_eq n case) [
  | inl same ↦
      let test : (n == case) ≡ true = eq-eqb n case same in
      rw (test, same) here
  | inr differ ↦
      let test : (n == case) ≡ false = ne_eqb n case differ in
      rw test (others n differ)
]

-- the case that is found by its number has it
pub number_found : (cases : List DocketedCase) (n : ℕ) (c : DocketedCase) → find (is_case n) cases ≡ Some c → c.case ≡ n
number_found cases n c found =
    let first = find-Some (is_case n) cases c found in
    eqb-true c.case n first.passes

-- a case that is shown as it was, and one that is shown changed
pub shown_same : {A : Type 0} (f g : A → CaseRecordView) (o : Option A) → ((c : A) → o ≡ Some c → f c ≡ g c) → option_map f o ≡ option_map g o
shown_same f g None h = refl
shown_same f g (Some c) h = ap Some (h c refl)

pub shown_changed : {A : Type 0} (f g : A → CaseRecordView) (change : CaseRecordView → CaseRecordView) (o : Option A) → ((c : A) → o ≡ Some c → f c ≡ change (g c)) → option_map f o ≡ option_or (option_map change (option_map g o)) (option_map g o)
shown_changed f g change None h = refl
shown_changed f g change (Some c) h = ap Some (h c refl)

-- no row is that of a case that isn't open
pub none_of_case : {A : Type 0} (case_of : A → ℕ) (cases : List DocketedCase) (case : ℕ) (rows : List A) → All (λ r. IsSome (find (is_case (case_of r)) cases)) rows → find (is_case case) cases ≡ None → All (λ r. (case_of r == case) ≡ false) rows
none_of_case case_of cases case rows open_cases none k d within = elim (cases_Bool (case_of (get_or rows k d) == case)) [
  | inl same ↦
      let e : case_of (get_or rows k d) ≡ case = eqb-true _ _ same in
      let found : IsSome (find (is_case case) cases) = subst (λ (n : ℕ). IsSome (find (is_case n) cases)) e (open_cases k d within) in
      absurd (false≢true (rw none at found))
  | inr differ ↦ differ
]

-- a case that is opened has no deadlines and no motions, and nothing is recorded of it
pub case_after_opening : (setup : CourtSetup) (rows : Rows) (case : ℕ) (filed : ℤ) → AreSound setup rows → find (is_case case) rows.cases ≡ None → (n : ℕ) → (parts_of (rows_after rows (OpenCase case filed))).case n ≡ option_or (case_written (parts_of rows) (OpenCase case filed) n) ((parts_of rows).case n)
unfolding parts_of
case_after_opening setup rows case filed sound none =
    let new : DocketedCase = record { case = case; filed = filed } in
    let opened : find (is_case case) (rows.cases ++ new ∷ []) ≡ Some new = find_here (is_case case) rows.cases new [] (find-None (is_case case) rows.cases none) (eq-eqb case case refl) in
    let deadlines : filter (is_deadline_in case) rows.deadlines ≡ [] = filter_none (is_deadline_in case) rows.deadlines (none_of_case (λ d. d.case) rows.cases case rows.deadlines sound.deadlines_of_cases none) in
    let motions : filter (is_motion_in case) rows.motions ≡ [] = filter_none (is_motion_in case) rows.motions (none_of_case (λ m. m.case) rows.cases case rows.motions sound.motions_of_cases none) in
    let facts : filter (is_fact_in case) rows.facts ≡ [] = filter_none (is_fact_in case) rows.facts (none_of_case (λ f. f.case) rows.cases case rows.facts sound.facts_of_cases none) in
    written_at
    (λ n. option_map (case_shown rows) (find (is_case n) (rows.cases ++ new ∷ [])))
    (λ n. option_map (case_shown rows) (find (is_case n) rows.cases))
    (λ n. Some (record { filed = filed; deadlines = []; motions = []; facts = [] }))
    case
    (rw (opened, deadlines, motions, facts) refl)
    (λ n differ. ap (option_map (case_shown rows)) (find-push_other (is_case n) rows.cases new (ne_eqb case n (λ e. differ (sym e)))))
