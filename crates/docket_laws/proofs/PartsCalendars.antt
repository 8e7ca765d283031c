-- The calendars of the parts after a hearing is set, moved or taken out.
use Rattle.std.proofs.Common.{◌≡◌, ℕ, ℤ, Bool, true, false, not, ◌==◌, List, [], ◌∷◌, ◌++◌, map, find, filter, All, AllPairs, suc, Option, Some, None, option_map, if◌then◌else◌, refl, ap, sym, ◌∙◌, arith, inl, inr}
use Rattle.std.specs.Option.{option_map_or, unwrap_or}
use Rattle.std.proofs.lemmas.Bool.{cases_Bool, eqb-true, and_parts, not_from_false}
use Rattle.hearing_slots.specs.declared.booking.Booking.{Booking}
use Rattle.hearing_slots.specs.declared.need.Need.{Need}
use Rattle.hearing_slots.specs.declared.need.Need.TheVariants.{ExParte}
use Rattle.hearing_slots.specs.Words.{in_order, is_of, without_motion}
use Rattle.hearing_slots.proofs.CallerLemmas.{filter_all, filter_comm, without_motion-in_order, with_booking-in_order}
use Rattle.court_clock.specs.Words.{later_day}
use Rattle.docket_rows.specs.declared.hearing.Hearing.{Hearing}
use Rattle.docket_rows.specs.declared.hearing.Setting.{Setting}
use Rattle.docket_rows.specs.Words.{CourtSetup, Rows, DocketedMotion, DocketedHearing, NumberedMotion, AreSound, is_motion, is_hearing, hearing_of, motion_shown, booked, parts_of, has_one, hearing_asked, without_hearing, with_hearing, booking_of, changed_by, change_to}
use Rattle.docket_laws.proofs.PartsLists.{filter-map, filter-push_other, map_filter-push}
use Rattle.docket_laws.proofs.PartsSeen.{motion_seen}

-- the bookings of the hearings that pass a test, beside the number of their room, or of their first judge
abbrev pub calendar : Rows → (other : Hearing → ℕ) → (test : Hearing → Bool) → List Booking
calendar rows other test = in_order (map (λ h. booked rows (other h.hearing) h) (filter (λ (h : DocketedHearing). test h.hearing) rows.hearings))

module _ (case motion : ℕ) where
  abbrev kept : DocketedHearing → Bool
  kept h = not (is_hearing case motion h)

  -- to take the hearing out of the rows is to take its booking out of a calendar
  without_bookings : (rows : Rows) (other : Hearing → ℕ) (test : Hearing → Bool) → without_motion case motion (map (λ h. booked rows (other h.hearing) h) (filter (λ (h : DocketedHearing). test h.hearing) rows.hearings)) ≡ map (λ h. booked rows (other h.hearing) h) (filter (λ (h : DocketedHearing). test h.hearing) (filter kept rows.hearings))
  without_bookings rows other test =
      filter-map (λ b. not (is_of case motion b)) (λ h. booked rows (other h.hearing) h) (filter (λ (h : DocketedHearing). test h.hearing) rows.hearings)
      ∙ ap (map (λ h. booked rows (other h.hearing) h)) (filter_comm kept (λ (h : DocketedHearing). test h.hearing) rows.hearings)

  without_calendar : (rows : Rows) (other : Hearing → ℕ) (test : Hearing → Bool) → without_motion case motion (calendar rows other test) ≡ calendar (without_hearing case motion rows) other test
  without_calendar rows other test =
      without_motion-in_order case motion (map (λ h. booked rows (other h.hearing) h) (filter (λ (h : DocketedHearing). test h.hearing) rows.hearings))
      ∙ ap in_order (without_bookings rows other test)

  -- where the hearing, which stands once, doesn't pass the test, none that passes is taken out
  none_taken : (test : Hearing → Bool) (hearings : List DocketedHearing) → AllPairs (λ (a b : DocketedHearing). is_hearing a.case a.motion b ≡ false) hearings → has_one test (option_map (λ (h : DocketedHearing). h.hearing) (find (is_hearing case motion) hearings)) ≡ false → filter (λ (h : DocketedHearing). test h.hearing) (filter kept hearings) ≡ filter (λ (h : DocketedHearing). test h.hearing) hearings
  none_taken test [] once fails = refl
  none_taken test (h ∷ hearings) once fails =
      let rest : AllPairs (λ (a b : DocketedHearing). is_hearing a.case a.motion b ≡ false) hearings = λ i j d below within. once (suc i) (suc j) d (omega (arith, below)) (omega (arith, within)) in
      elim (cases_Bool (is_hearing case motion h)) [
        | inl it ↦
            let both = and_parts (h.case == case) (h.motion == motion) it in
            let same : h.case ≡ case = eqb-true h.case case both.0 in
            let too : h.motion ≡ motion = eqb-true h.motion motion both.1 in
            let out : test h.hearing ≡ false = rw it at fails in
            let others : All (λ (x : DocketedHearing). kept x ≡ true) hearings = λ k d within. not_from_false _ (rw (same, too) at (once 0 (suc k) d (omega arith) (omega (arith, within)))) in
            rw (it, out) (ap (filter (λ (x : DocketedHearing). test x.hearing)) (filter_all kept hearings others))
        | inr differs ↦ (let less = none_taken test hearings rest (rw differs at fails) in elim (cases_Bool (test h.hearing)) [
          | inl passes ↦ rw (differs, passes) (ap (λ hs. h ∷ hs) less)
          | inr out ↦ rw (differs, out) less
        ])
      ]

  untouched : (rows : Rows) (other : Hearing → ℕ) (test : Hearing → Bool) → AllPairs (λ (a b : DocketedHearing). is_hearing a.case a.motion b ≡ false) rows.hearings → has_one test (hearing_of rows case motion) ≡ false → calendar (without_hearing case motion rows) other test ≡ calendar rows other test
  untouched rows other test once fails =
      ap (λ hs. in_order (map (λ h. booked rows (other h.hearing) h) hs)) (none_taken test rows.hearings once fails)

-- a calendar after the hearing of a motion is taken out
pub calendar_cancelled : (rows : Rows) (case motion : ℕ) (other : Hearing → ℕ) (test : Hearing → Bool) → AllPairs (λ (a b : DocketedHearing). is_hearing a.case a.motion b ≡ false) rows.hearings → calendar (without_hearing case motion rows) other test ≡ unwrap_or (changed_by (change_to case motion (has_one test (hearing_of rows case motion)) None) (calendar rows other test)) (calendar rows other test)
calendar_cancelled rows case motion other test once = elim (cases_Bool (has_one test (hearing_of rows case motion))) [
  | inl stood ↦ rw stood (sym (without_calendar case motion rows other test))
  | inr elsewhere ↦ rw elsewhere (untouched case motion rows other test once elsewhere)
]

-- a calendar after the hearing of a motion is put elsewhere
pub calendar_moved : (rows : Rows) (s : Setting) (other : Hearing → ℕ) (test : Hearing → Bool) → AllPairs (λ (a b : DocketedHearing). is_hearing a.case a.motion b ≡ false) rows.hearings → calendar (with_hearing s (without_hearing s.case s.motion rows)) other test ≡ unwrap_or (changed_by (change_to s.case s.motion (has_one test (hearing_of rows s.case s.motion)) (if test (hearing_asked s) then Some (booked rows (other (hearing_asked s)) (record { case = s.case; motion = s.motion; hearing = hearing_asked s })) else None)) (calendar rows other test)) (calendar rows other test)
calendar_moved rows s other test once =
    let new : DocketedHearing = record { case = s.case; motion = s.motion; hearing = hearing_asked s } in
    let show = λ (h : DocketedHearing). booked rows (other h.hearing) h in
    let passes = λ (h : DocketedHearing). test h.hearing in
    let left = filter (λ (h : DocketedHearing). not (is_hearing s.case s.motion h)) rows.hearings in
    elim (cases_Bool (test (hearing_asked s))) [
      | inl belongs ↦
          rw belongs (ap in_order (map_filter-push show passes left new belongs ∙ ap (λ (bs : List Booking). bs ++ show new ∷ []) (sym (without_bookings s.case s.motion rows other test)))
          ∙ sym (with_booking-in_order (show new) (map show (filter passes rows.hearings))))
      | inr not_here ↦ (let same : calendar (with_hearing s (without_hearing s.case s.motion rows)) other test ≡ calendar (without_hearing s.case s.motion rows) other test = ap (λ hs. in_order (map show hs)) (filter-push_other passes left new not_here) in elim (cases_Bool (has_one test (hearing_of rows s.case s.motion))) [
        | inl stood ↦ rw (not_here, stood) (same ∙ sym (without_calendar s.case s.motion rows other test))
        | inr elsewhere ↦ rw (not_here, elsewhere) (same ∙ untouched s.case s.motion rows other test once elsewhere)
      ])
    ]

-- the booking that is written is that of the hearing in the rows after
abbrev booking_with : Setting → (other : ℕ) → Need → ℤ → Booking
booking_with s other need served =
    record { case = s.case; motion = s.motion; other = other; day = s.day; first = s.first; count = s.count; need = need; served = served }

pub booking_seen : (setup : CourtSetup) (rows : Rows) → AreSound setup rows → (other : ℕ) (s : Setting) → booking_of (parts_of rows) other s ≡ booked rows other (record { case = s.case; motion = s.motion; hearing = hearing_asked s })
booking_seen setup rows sound other s =
    ap (λ (found : Option NumberedMotion). booking_with s other (option_map_or (λ (m : NumberedMotion). m.need) found ExParte) (option_map_or (λ (m : NumberedMotion). later_day m.served s.notice) found s.notice)) (motion_seen setup rows sound s.case s.motion)
    ∙ shown (find (is_motion s.case s.motion) rows.motions) where
      shown : (found : Option DocketedMotion) → booking_with s other (option_map_or (λ (m : NumberedMotion). m.need) (option_map (motion_shown rows) found) ExParte) (option_map_or (λ (m : NumberedMotion). later_day m.served s.notice) (option_map (motion_shown rows) found) s.notice) ≡ booking_with s other (option_map_or (λ (m : DocketedMotion). m.need) found ExParte) (option_map_or (λ (m : DocketedMotion). later_day m.served s.notice) found s.notice)
      shown None = refl
      shown (Some m) = refl
