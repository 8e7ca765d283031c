-- What holds of the bookings of a calendar holds of their hearings.
use Rattle.std.proofs.Common.{◌≡◌, ℕ, ◌+◌, ◌<◌, ◌==◌, nat_eq, nat_lt, Bool, true, false, List, [], ◌∷◌, get_or, map, filter, None, refl, subst, arith}
use Rattle.std.specs.List.{All, list_all, range_with_len}
use Rattle.std.proofs.lemmas.Bool.{and_parts, ltb-true}
use Rattle.std.proofs.lemmas.Bool.Decides.{nat_tests}
use Rattle.std.proofs.lemmas.Cmp.{nat_eq_equiv}
use Rattle.std.proofs.lemmas.List.FromFn.{length-range_with_len, get_or-range_with_len}
use Rattle.hearing_slots.specs.declared.booking.Booking.{Booking}
use Rattle.hearing_slots.proofs.CallerLemmas.{All-from_in_order}
use Rattle.docket_rows.specs.Words.{CourtSetup, Rows, DocketedHearing, AreSound, parts_of, sits, booked, first_judge, is_panel, has_judges, all_booked, least}
use Rattle.docket_laws.proofs.LawfulLemmas.ListLemmas.{All-from_map, All-from_filter, All-from_flat_map, none_pass}

-- those of a judge, and those of a room
pub in_judge_calendar : (rows : Rows) (judge : ℕ) (P : Booking → Type 0) → All P ((parts_of rows).judge judge) → All (λ h. sits judge h.hearing.judges ≡ true → P (booked rows h.hearing.room h)) rows.hearings
unfolding parts_of
in_judge_calendar rows judge P all =
    let shown = λ (h : DocketedHearing). booked rows h.hearing.room h in
    let mine = λ (h : DocketedHearing). sits judge h.hearing.judges in
    All-from_filter (λ h. P (shown h)) mine rows.hearings
    (All-from_map P shown (filter mine rows.hearings) (All-from_in_order P (map shown (filter mine rows.hearings)) all))

pub in_room_calendar : (rows : Rows) (room : ℕ) (P : Booking → Type 0) → All P ((parts_of rows).room room) → All (λ h. (h.hearing.room == room) ≡ true → P (booked rows (first_judge h.hearing.judges) h)) rows.hearings
unfolding parts_of
in_room_calendar rows room P all =
    let shown = λ (h : DocketedHearing). booked rows (first_judge h.hearing.judges) h in
    let mine = λ (h : DocketedHearing). h.hearing.room == room in
    All-from_filter (λ h. P (shown h)) mine rows.hearings
    (All-from_map P shown (filter mine rows.hearings) (All-from_in_order P (map shown (filter mine rows.hearings)) all))

-- a judge of the court who sits in the hearing
record IsHeardBy (setup : CourtSetup) (panel : List ℕ) : Type 0 where
  judge : ℕ
  of_court : judge < setup.judges
  sitting : sits judge panel ≡ true

heard_by : (setup : CourtSetup) (panel : List ℕ) → is_panel panel ≡ true → has_judges setup panel ≡ true → IsHeardBy setup panel
heard_by setup [] some judges = absurd (grind (arith, nat_tests))
heard_by setup (j ∷ js) some judges =
    let of_court = ltb-true j setup.judges (and_parts (nat_lt j setup.judges) (list_all (λ k. nat_lt k setup.judges) js) judges).0 in
    let here : nat_eq j j ≡ true = nat_eq_equiv.refl j in
    record { judge = j; of_court = of_court; sitting = rw here refl }

-- where there is no least, there is none
none_of_least : (bookings : List Booking) → least bookings ≡ None → bookings ≡ []
none_of_least [] h = refl
none_of_least (b ∷ bs) h = absurd cc

-- where no booking of the court passes a test, no hearing does, as each has a judge of the court
pub in_no_calendar : (setup : CourtSetup) (rows : Rows) (p : Booking → Bool) → AreSound setup rows → least (filter p (all_booked setup (parts_of rows))) ≡ None → All (λ h. p (booked rows h.hearing.room h) ≡ false) rows.hearings
in_no_calendar setup rows p s h k d within =
    let fails = λ (b : Booking). p b ≡ false in
    let everywhere = none_pass p (all_booked setup (parts_of rows)) (none_of_least _ h) in
    let by_judge = All-from_flat_map fails (parts_of rows).judge (range_with_len 0 setup.judges) everywhere in
    let settable = s.hearings_settable k d within in
    let heard = heard_by setup (get_or rows.hearings k d).hearing.judges settable.panel settable.judges in
    let here : get_or (range_with_len 0 setup.judges) heard.judge 0 ≡ 0 + heard.judge = get_or-range_with_len 0 setup.judges heard.judge 0 heard.of_court in
    let named : get_or (range_with_len 0 setup.judges) heard.judge 0 ≡ heard.judge = omega (arith, here) in
    let of_judge = subst (λ (j : ℕ). All fails ((parts_of rows).judge j)) named (by_judge heard.judge 0 (omega (arith, length-range_with_len 0 setup.judges, heard.of_court))) in
    in_judge_calendar rows heard.judge fails of_judge k d within heard.sitting
