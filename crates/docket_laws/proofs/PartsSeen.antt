-- The motions and hearings that the parts of the rows show.
use Rattle.std.proofs.Common.{◌≡◌, ℕ, ◌+◌, ◌<◌, true, false, ◌==◌, List, [], ◌∷◌, length, get_or, map, find, filter, All, Option, Some, None, IsSome, option_map, option_and_then, refl, ap, sym, ◌∙◌, arith, inl, inr}
use Rattle.std.specs.List.{range_with_len}
use Rattle.std.specs.Option.{option_map_or}
use Rattle.std.proofs.lemmas.Bool.{cases_Bool, false≢true, eqb-true, ne_eqb, and_parts, and_right, false_from_ne_true}
use Rattle.std.proofs.lemmas.List.{get_or-map}
use Rattle.std.proofs.lemmas.List.FromFn.{get_or-range_with_len}
use Rattle.hearing_slots.proofs.CallerLemmas.{find_absent, find-Some, find-filter}
use Rattle.docket_rows.specs.Words.{CourtSetup, Rows, DocketedCase, DocketedMotion, DocketedHearing, NumberedMotion, CaseRecordView, AreSound, is_case, is_motion_in, is_motion, is_hearing, hearing_of, motion_shown, case_shown, parts_of, motion_in, hearing_in}
use Rattle.docket_laws.proofs.PartsCases.{number_found, none_of_case}

-- the motion of a number, of those that a case shows
find_shown : (rows : Rows) (case number : ℕ) (motions : List DocketedMotion) → find (λ (m : NumberedMotion). m.number == number) (map (motion_shown rows) (filter (is_motion_in case) motions)) ≡ option_map (motion_shown rows) (find (is_motion case number) motions)
find_shown rows case number [] = refl
find_shown rows case number (m ∷ motions) = elim (cases_Bool (m.case == case)) [
  | inl here ↦ elim (cases_Bool (m.number == number)) [
    | inl it ↦ rw (here, it) refl
    | inr other ↦ rw (here, other) (find_shown rows case number motions)
  ]
  | inr elsewhere ↦ rw elsewhere (find_shown rows case number motions)
]

-- no motion is in a case that isn't open
no_motion : (case number : ℕ) (motions : List DocketedMotion) → All (λ (m : DocketedMotion). (m.case == case) ≡ false) motions → find (is_motion case number) motions ≡ None
no_motion case number motions none = find_absent (is_motion case number) motions (λ k d within. rw (none k d within) refl)

-- the parts show the motion of the rows
pub motion_seen : (setup : CourtSetup) (rows : Rows) → AreSound setup rows → (case number : ℕ) → motion_in (parts_of rows) case number ≡ option_map (motion_shown rows) (find (is_motion case number) rows.motions)
unfolding parts_of
motion_seen setup rows sound case number = seen (find (is_case case) rows.cases) refl where
  seen : (found : Option DocketedCase) → find (is_case case) rows.cases ≡ found → find (λ (m : NumberedMotion). m.number == number) (option_map_or (λ (c : CaseRecordView). c.motions) (option_map (case_shown rows) found) []) ≡ option_map (motion_shown rows) (find (is_motion case number) rows.motions)
  seen None is =
      let none = no_motion case number rows.motions (none_of_case (λ m. m.case) rows.cases case rows.motions sound.motions_of_cases is) in
      rw none refl
  seen (Some c) is =
      let same : c.case ≡ case = number_found rows.cases case c is in
      ap (λ (n : ℕ). find (λ (m : NumberedMotion). m.number == number) (map (motion_shown rows) (filter (is_motion_in n) rows.motions))) same
      ∙ find_shown rows case number rows.motions

-- a motion that isn't entered has no hearing
pub unset : (rows : Rows) → All (λ (h : DocketedHearing). IsSome (find (is_motion h.case h.motion) rows.motions)) rows.hearings → (case motion : ℕ) → find (is_motion case motion) rows.motions ≡ None → find (is_hearing case motion) rows.hearings ≡ None
unset rows entered case motion none =
    find_absent (is_hearing case motion) rows.hearings (λ k d within. false_from_ne_true _ (λ it. other (get_or rows.hearings k d) (entered k d within) it)) where
      other : (h : DocketedHearing) → IsSome (find (is_motion h.case h.motion) rows.motions) → is_hearing case motion h ≡ true → ⊥
      other h found it =
          let both = and_parts (h.case == case) (h.motion == motion) it in
          let same : h.case ≡ case = eqb-true h.case case both.0 in
          let too : h.motion ≡ motion = eqb-true h.motion motion both.1 in
          false≢true (rw (same, too, none) at found)

-- the parts show the hearing of the rows
pub hearing_seen : (setup : CourtSetup) (rows : Rows) → AreSound setup rows → (case motion : ℕ) → hearing_in (parts_of rows) case motion ≡ hearing_of rows case motion
hearing_seen setup rows sound case motion =
    ap (option_and_then (λ (m : NumberedMotion). m.hearing)) (motion_seen setup rows sound case motion)
    ∙ seen (find (is_motion case motion) rows.motions) refl where
      seen : (found : Option DocketedMotion) → find (is_motion case motion) rows.motions ≡ found → option_and_then (λ (m : NumberedMotion). m.hearing) (option_map (motion_shown rows) found) ≡ hearing_of rows case motion
      seen None is = let none = unset rows sound.hearings_of_motions case motion is in rw none refl
      seen (Some m) is =
          let first = find-Some (is_motion case motion) rows.motions m is in
          let both = and_parts (m.case == case) (m.number == motion) first.passes in
          let same : m.case ≡ case = eqb-true m.case case both.0 in
          let too : m.number ≡ motion = eqb-true m.number motion both.1 in
          rw (same, too) refl

-- the number that comes next in a case isn't that of one of its motions
numbers_below : (ms : List DocketedMotion) → map (λ (m : DocketedMotion). m.number) ms ≡ range_with_len 1 (length ms) → All (λ (m : DocketedMotion). m.number < length ms + 1) ms
numbers_below ms numbered k d within =
    let at : (get_or ms k d).number ≡ 1 + k = sym (get_or-map (λ (m : DocketedMotion). m.number) ms k d 0 within) ∙ ap (λ (ns : List ℕ). get_or ns k 0) numbered ∙ get_or-range_with_len 1 (length ms) k 0 within in
    omega (arith, at)

pub none_next : (case : ℕ) (motions : List DocketedMotion) → map (λ (m : DocketedMotion). m.number) (filter (is_motion_in case) motions) ≡ range_with_len 1 (length (filter (is_motion_in case) motions)) → find (is_motion case (length (filter (is_motion_in case) motions) + 1)) motions ≡ None
none_next case motions numbered =
    let ms = filter (is_motion_in case) motions in
    let next = length ms + 1 in
    sym (find-filter (is_motion case next) (is_motion_in case) (λ m it. (and_parts (m.case == case) (m.number == next) it).0) motions)
    ∙ find_absent (is_motion case next) ms (λ k d within.
    let below = numbers_below ms numbered k d within in
    and_right ((get_or ms k d).case == case) ((get_or ms k d).number == next) (ne_eqb (get_or ms k d).number next (λ e. omega (arith, e, below))))
