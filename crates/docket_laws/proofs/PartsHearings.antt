-- The cases of the parts after a hearing is set, moved or taken out.
use Rattle.std.proofs.Common.{◌≡◌, ℕ, true, false, not, ◌==◌, List, [], ◌∷◌, ◌++◌, find, filter, All, get_or, Option, Some, None, option_map, if◌then◌else◌, refl, ap, sym, ◌∙◌, inl, inr}
use Rattle.std.specs.Option.{option_or}
use Rattle.std.proofs.lemmas.Bool.{cases_eq, eqb-true, eq-eqb, ne_eqb, and_parts, and_from, not_from_false, not-true, false_from_ne_true}
use Rattle.std.proofs.lemmas.List.Elements.{filter_passes}
use Rattle.hearing_slots.proofs.CallerLemmas.{find_absent, find_here, find-filter}
use Rattle.docket_rows.specs.declared.hearing.Hearing.{Hearing}
use Rattle.docket_rows.specs.declared.hearing.Setting.{Setting}
use Rattle.docket_rows.specs.declared.command.Command.TheVariants.{MoveHearing, Cancel}
use Rattle.docket_rows.specs.Words.{Rows, DocketedMotion, DocketedHearing, NumberedMotion, is_case, is_motion_in, is_hearing, hearing_of, motion_shown, case_shown, parts_of, hearing_asked, set_hearing, case_written, without_hearing, rows_after}
use Rattle.docket_laws.proofs.PartsLists.{map-map, map_agree-kept, find-push_other}
use Rattle.docket_laws.proofs.PartsCases.{written_at, number_found, shown_same, shown_changed}

-- a motion of the case is shown with its hearing as it stands now
motion_with_hearing : (rows : Rows) (hearings : List DocketedHearing) (case motion : ℕ) (h : Option Hearing) → option_map (λ (x : DocketedHearing). x.hearing) (find (is_hearing case motion) hearings) ≡ h → ((n k : ℕ) → ((n ≡ case) × (k ≡ motion) → ⊥) → find (is_hearing n k) hearings ≡ find (is_hearing n k) rows.hearings) → (m : DocketedMotion) → m.case ≡ case → motion_shown (record rows { hearings = hearings }) m ≡ (if m.number == motion then record (motion_shown rows m) { hearing = h } else motion_shown rows m)
motion_with_hearing rows hearings case motion h stands others m in_case =
    let found = λ (n k : ℕ). option_map (λ (x : DocketedHearing). x.hearing) (find (is_hearing n k) hearings) in
    elim (cases_eq m.number motion) [
      | inl it ↦
          let test : (m.number == motion) ≡ true = eq-eqb m.number motion it in
          let its : found m.case m.number ≡ h = ap (λ (n : ℕ). found n m.number) in_case ∙ ap (found case) it ∙ stands in
          rw test (ap (λ (x : Option Hearing). record (motion_shown rows m) { hearing = x }) its)
      | inr another ↦
          let test : (m.number == motion) ≡ false = ne_eqb m.number motion another in
          let its : found m.case m.number ≡ hearing_of rows m.case m.number = ap (option_map (λ (x : DocketedHearing). x.hearing)) (others m.case m.number (λ both. another both.1)) in
          rw test (ap (λ (x : Option Hearing). record (motion_shown rows m) { hearing = x }) its)
    ]

-- a case whose motion has another hearing, or none any more
case_with_hearing : (rows : Rows) (hearings : List DocketedHearing) (case motion : ℕ) (h : Option Hearing) → option_map (λ (x : DocketedHearing). x.hearing) (find (is_hearing case motion) hearings) ≡ h → ((n k : ℕ) → ((n ≡ case) × (k ≡ motion) → ⊥) → find (is_hearing n k) hearings ≡ find (is_hearing n k) rows.hearings) → (n : ℕ) → (parts_of (record rows { hearings = hearings })).case n ≡ option_or (if n == case then option_map (set_hearing motion h) ((parts_of rows).case n) else None) ((parts_of rows).case n)
unfolding parts_of
case_with_hearing rows hearings case motion h stands others =
    let after = record rows { hearings = hearings } in
    let set_one = λ (m : NumberedMotion). if m.number == motion then record m { hearing = h } else m in
    written_at
    (λ n. option_map (case_shown after) (find (is_case n) rows.cases))
    (λ n. option_map (case_shown rows) (find (is_case n) rows.cases))
    (λ n. option_map (set_hearing motion h) (option_map (case_shown rows) (find (is_case n) rows.cases)))
    case
    (shown_changed (case_shown after) (case_shown rows) (set_hearing motion h) (find (is_case case) rows.cases) (λ c found.
    let same : c.case ≡ case = number_found rows.cases case c found in
    ap (λ (ms : List NumberedMotion). record (case_shown rows c) { motions = ms })
    (map_agree-kept (is_motion_in c.case) (motion_shown after) (λ m. set_one (motion_shown rows m)) rows.motions (λ k d within here.
    let m = get_or rows.motions k d in
    let in_case : m.case ≡ case = eqb-true m.case c.case here ∙ same in
    motion_with_hearing rows hearings case motion h stands others m in_case)
    ∙ sym (map-map set_one (motion_shown rows) (filter (is_motion_in c.case) rows.motions)))))
    (λ n differ. shown_same (case_shown after) (case_shown rows) (find (is_case n) rows.cases) (λ c found.
    let same : c.case ≡ n = number_found rows.cases n c found in
    ap (λ (ms : List NumberedMotion). record (case_shown rows c) { motions = ms })
    (map_agree-kept (is_motion_in c.case) (motion_shown after) (motion_shown rows) rows.motions (λ k d within here.
    let m = get_or rows.motions k d in
    let elsewhere : m.case ≡ case → ⊥ = λ e. differ (sym same ∙ sym (eqb-true m.case c.case here) ∙ e) in
    rw (others m.case m.number (λ both. elsewhere both.0)) refl))))

-- the hearings of other motions are found as before
module _ (rows : Rows) (case motion : ℕ) where
  abbrev left : List DocketedHearing
  left = filter (λ (h : DocketedHearing). not (is_hearing case motion h)) rows.hearings

  pub found_left : (n k : ℕ) → ((n ≡ case) × (k ≡ motion) → ⊥) → find (is_hearing n k) left ≡ find (is_hearing n k) rows.hearings
  found_left n k differ =
      find-filter (is_hearing n k) (λ (h : DocketedHearing). not (is_hearing case motion h)) (λ x it. not_from_false _ (false_from_ne_true _ (λ too.
      let one = and_parts (x.case == n) (x.motion == k) it in
      let two = and_parts (x.case == case) (x.motion == motion) too in
      differ (sym (eqb-true x.case n one.0) ∙ eqb-true x.case case two.0, sym (eqb-true x.motion k one.1) ∙ eqb-true x.motion motion two.1)))) rows.hearings

  none_left : All (λ (x : DocketedHearing). is_hearing case motion x ≡ false) left
  none_left k d within = not-true _ (filter_passes (λ (h : DocketedHearing). not (is_hearing case motion h)) rows.hearings k d within)

  -- and none is found for the motion itself
  pub none_set : hearing_of (without_hearing case motion rows) case motion ≡ None
  none_set = ap (option_map (λ (x : DocketedHearing). x.hearing)) (find_absent (is_hearing case motion) left none_left)

  pub case_after_cancel : (n : ℕ) → (parts_of (rows_after rows (Cancel case motion))).case n ≡ option_or (case_written (parts_of rows) (Cancel case motion) n) ((parts_of rows).case n)
  case_after_cancel n =
      case_with_hearing rows left case motion None none_set found_left n

pub case_after_move : (rows : Rows) (s : Setting) (n : ℕ) → (parts_of (rows_after rows (MoveHearing s))).case n ≡ option_or (case_written (parts_of rows) (MoveHearing s) n) ((parts_of rows).case n)
case_after_move rows s n =
    let new : DocketedHearing = record { case = s.case; motion = s.motion; hearing = hearing_asked s } in
    let itself : is_hearing s.case s.motion new ≡ true = and_from (s.case == s.case) (s.motion == s.motion) (eq-eqb s.case s.case refl) (eq-eqb s.motion s.motion refl) in
    let stays = left rows s.case s.motion in
    case_with_hearing rows (stays ++ new ∷ []) s.case s.motion (Some (hearing_asked s))
    (ap (option_map (λ (x : DocketedHearing). x.hearing)) (find_here (is_hearing s.case s.motion) stays new [] (none_left rows s.case s.motion) itself))
    (λ n k differ. find-push_other (is_hearing n k) stays new (false_from_ne_true _ (λ it.
    let both = and_parts (s.case == n) (s.motion == k) it in
    differ (sym (eqb-true s.case n both.0), sym (eqb-true s.motion k both.1))))
    ∙ found_left rows s.case s.motion n k differ)
    n
