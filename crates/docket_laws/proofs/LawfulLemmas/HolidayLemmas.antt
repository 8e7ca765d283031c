-- A holiday or an outage that is entered.
use Rattle.std.proofs.Common.{◌≡◌, ℕ, ℤ, ◌≤ℤ◌, Bool, true, false, ◌||◌, is_some, List, [], ◌∷◌, ◌++◌, get_or, find, Option, Some, None, refl, ap, sym, subst, ◌∙◌, arith, inl, inr}
use Rattle.std.specs.Ordering.{int_eq}
use Rattle.std.specs.List.{All, list_any}
use Rattle.std.specs.Option.{IsSomeAnd}
use Rattle.std.proofs.lemmas.Bool.{cases_Bool, or_parts}
use Rattle.std.proofs.lemmas.Bool.Decides.{nat_tests}
use Rattle.std.proofs.lemmas.List.Elements.{Contains-get_or}
use Rattle.std.proofs.lemmas.List.Folds.{list_any-append}
use Rattle.court_clock.specs.declared.direction.Direction.TheVariants.{After}
use Rattle.court_days.specs.declared.holiday_list.HolidayList.{HolidayList}
use Rattle.court_days.specs.declared.holiday_list.HolidayList.TheVariants.{Federal, State}
use Rattle.court_clock.specs.Words.{later_day}
use Rattle.court_days.specs.Words.{DaysView, OutageView, add_date, add_holiday, add_outage, is_among, is_permitted, latest_day}
use Rattle.rule_periods.specs.Words.{notice_of}
use Rattle.hearing_slots.specs.declared.need.Need.{Need}
use Rattle.hearing_slots.specs.declared.need.Need.TheVariants as need
use Rattle.hearing_slots.specs.Words.{is_on}
use Rattle.docket_rows.specs.declared.command.Command.TheVariants.{Holiday, Inaccessible}
use Rattle.docket_rows.specs.Words.{CourtSetup, Rows, DocketedMotion, DocketedHearing, AreSound, AreLawful, IsNoticed, KeepsNotice, parts_of, is_motion, booked, lacks_notice, lacks_last_service, missed_service, holiday_refusal, holiday_checks, rows_after}
use Rattle.docket_laws.proofs.MadeLemmas.{none_of, option_map-None}
use Rattle.docket_laws.proofs.LawfulLemmas.ListLemmas.{found_of}
use Rattle.docket_laws.proofs.LawfulLemmas.MotionLemmas.{motion_once}
use Rattle.docket_laws.proofs.LawfulLemmas.NoticeLemmas.{noticed_of}
use Rattle.docket_laws.proofs.LawfulLemmas.CalendarLemmas.{in_no_calendar}

-- the rows with other days
abbrev with_days : Rows → DaysView → Rows
with_days rows days = record rows { days = days }

-- which rows are sound is no matter of holidays or outages, as long as the span of the days stays
sound_days : (setup : CourtSetup) (rows : Rows) (days : DaysView) → days.from ≡ rows.days.from → days.to ≡ rows.days.to → AreSound setup rows → AreSound setup (with_days rows days)
sound_days setup rows days first last s = record {
  first_day = first ∙ s.first_day;
  last_day = last ∙ s.last_day;
  case_numbers = s.case_numbers;
  case_once = s.case_once;
  deadlines_of_cases = s.deadlines_of_cases;
  deadlines_numbered = s.deadlines_numbered;
  motions_of_cases = s.motions_of_cases;
  motions_numbered = s.motions_numbered;
  needs = s.needs;
  hearings_of_motions = s.hearings_of_motions;
  hearing_once = s.hearing_once;
  hearings_settable = s.hearings_settable;
  facts_of_cases = s.facts_of_cases;
}

add_holiday-from : (c : DaysView) (list : HolidayList) (day : ℤ) → (add_holiday c list day).from ≡ c.from
add_holiday-from c Federal day = refl
add_holiday-from c State day = refl

add_holiday-to : (c : DaysView) (list : HolidayList) (day : ℤ) → (add_holiday c list day).to ≡ c.to
add_holiday-to c Federal day = refl
add_holiday-to c State day = refl

pub sound_holiday : (setup : CourtSetup) (rows : Rows) (day : ℤ) (list : HolidayList) → AreSound setup rows → AreSound setup (rows_after rows (Holiday day list))
sound_holiday setup rows day list s = sound_days setup rows (add_holiday rows.days list day) (add_holiday-from rows.days list day) (add_holiday-to rows.days list day) s

pub sound_outage : (setup : CourtSetup) (rows : Rows) (day : ℤ) (from to : ℕ) → AreSound setup rows → AreSound setup (rows_after rows (Inaccessible day from to))
sound_outage setup rows day from to s = sound_days setup rows (add_outage rows.days (record { day = day; from = from; to = to })) refl refl s

-- A day other than the new holiday stays a day on which hearings can be held

among-other : (day e : ℤ) (dates : List ℤ) → int_eq e day ≡ false → is_among (add_date day dates) e ≡ is_among dates e
among-other day e dates other = elim (cases_Bool (is_among dates day)) [
  | inl stands ↦ rw stands refl
  | inr new ↦
      let added : add_date day dates ≡ dates ++ day ∷ [] = rw new refl in
      let last : list_any (int_eq e) (day ∷ []) ≡ false = rw other refl in
      ap (list_any (int_eq e)) added
      ∙ list_any-append (int_eq e) dates (day ∷ [])
      ∙ ap (λ b. is_among dates e || b) last
      ∙ or_false (is_among dates e)
] where
  or_false : (b : Bool) → (b || false) ≡ b
  or_false true = refl
  or_false false = refl

still_permitted : (c : DaysView) (list : HolidayList) (day e : ℤ) → is_permitted c After e ≡ true → int_eq e day ≡ false → is_permitted (add_holiday c list day) After e ≡ true
unfolding is_permitted
still_permitted c Federal day e permitted other = rw (among-other day e c.federal other) permitted
still_permitted c State day e permitted other = rw (among-other day e c.state other) permitted

-- a hearing keeps its notice where no notice is counted over other days
same_notice : (days new : DaysView) (hearing : ℤ) (n : Need) (served notice : ℤ) → ((k : ℕ) → notice_of new hearing k ≡ notice_of days hearing k) → IsNoticed days hearing n served notice → IsNoticed new hearing n served notice
same_notice days new hearing need.ExParte served notice same h = tt
same_notice days new hearing (need.Days k) served notice same h = subst (λ o. IsSomeAnd o (λ latest. (served ≤ℤ latest) × (notice ≤ℤ latest))) (sym (same k)) h

state_notice : (c : DaysView) (day hearing : ℤ) (k : ℕ) → notice_of (add_holiday c State day) hearing k ≡ notice_of c hearing k
unfolding is_permitted latest_day
state_notice c day hearing k = refl

outage_notice : (c : DaysView) (o : OutageView) (hearing : ℤ) (k : ℕ) → notice_of (add_outage c o) hearing k ≡ notice_of c hearing k
unfolding is_permitted latest_day
outage_notice c o hearing k = refl

-- the booking of a hearing has the need and the days of service of its motion
booked_notice : (days : DaysView) (rows : Rows) (other : ℕ) (h : DocketedHearing) (m : DocketedMotion) → find (is_motion h.case h.motion) rows.motions ≡ Some m → lacks_notice days (booked rows other h) ≡ false → IsNoticed days h.hearing.day m.need m.served h.hearing.notice
booked_notice days rows other h m found kept =
    let both : (lacks_last_service days h.hearing.day m.need || is_some (missed_service days h.hearing.day m.need (later_day m.served h.hearing.notice))) ≡ false = rw found at kept in
    let parts = or_parts _ _ both in
    noticed_of days h.hearing.day m.need m.served h.hearing.notice parts.0 (none_missed _ parts.1) where
      none_missed : (o : Option ℤ) → is_some o ≡ false → o ≡ None
      none_missed None h = refl
      none_missed (Some d) h = absurd cc

-- after a federal holiday that takes no hearing its notice
federal_noticed : (setup : CourtSetup) (rows : Rows) (day : ℤ) → AreSound setup rows → All (λ h. lacks_notice (add_holiday rows.days Federal day) (booked rows h.hearing.room h) ≡ false) rows.hearings → All (λ m. All (KeepsNotice (add_holiday rows.days Federal day) m) rows.hearings) rows.motions
federal_noticed setup rows day s kept k d within j e within_hearings of_case of_motion =
    let m = get_or rows.motions k d in
    let h = get_or rows.hearings j e in
    let found = found_of (find (is_motion h.case h.motion) rows.motions) (s.hearings_of_motions j e within_hearings) in
    let is : is_motion h.case h.motion m ≡ true = grind (arith, nat_tests, of_case, of_motion) in
    let same : m ≡ found.value = motion_once setup rows s h.case h.motion m found.value (Contains-get_or rows.motions k d within) is found.is in
    booked_notice (add_holiday rows.days Federal day) rows h.hearing.room h m (found.is ∙ ap Some (sym same)) (kept j e within_hearings)

pub lawful_holiday : (setup : CourtSetup) (rows : Rows) (day : ℤ) (list : HolidayList) → AreSound setup rows → AreLawful setup rows → holiday_refusal setup (parts_of rows) day list ≡ None → AreLawful setup (rows_after rows (Holiday day list))
unfolding holiday_refusal parts_of
lawful_holiday setup rows day Federal s l refused =
    let n = none_of (holiday_checks setup (parts_of rows) day Federal) refused in
    let elsewhere = in_no_calendar setup rows (is_on day) s (option_map-None _ _ n.1.1.1.0) in
    let kept = in_no_calendar setup rows (lacks_notice (add_holiday rows.days Federal day)) s (option_map-None _ _ n.1.1.1.1.0) in
    record {
      apart = l.apart;
      on_court_days = λ k d within. still_permitted rows.days Federal day _ (l.on_court_days k d within) (elsewhere k d within);
      within_hours = l.within_hours;
      noticed = federal_noticed setup rows day s kept;
    }
lawful_holiday setup rows day State s l refused =
    let n = none_of (holiday_checks setup (parts_of rows) day State) refused in
    let elsewhere = in_no_calendar setup rows (is_on day) s (option_map-None _ _ n.1.1.1.0) in
    record {
      apart = l.apart;
      on_court_days = λ k d within. still_permitted rows.days State day _ (l.on_court_days k d within) (elsewhere k d within);
      within_hours = l.within_hours;
      noticed = λ k d within j e below of_case of_motion. same_notice rows.days (add_holiday rows.days State day) _ _ _ _ (state_notice rows.days day _) (l.noticed k d within j e below of_case of_motion);
    }

pub lawful_outage : (setup : CourtSetup) (rows : Rows) (day : ℤ) (from to : ℕ) → AreLawful setup rows → AreLawful setup (rows_after rows (Inaccessible day from to))
unfolding is_permitted
lawful_outage setup rows day from to l =
    let o : OutageView = record { day = day; from = from; to = to } in
    record {
      apart = l.apart;
      on_court_days = l.on_court_days;
      within_hours = l.within_hours;
      noticed = λ k d within j e below of_case of_motion. same_notice rows.days (add_outage rows.days o) _ _ _ _ (outage_notice rows.days o _) (l.noticed k d within j e below of_case of_motion);
    }
