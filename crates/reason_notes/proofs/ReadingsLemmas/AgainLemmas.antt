-- Days that are counted again from the day from which they were counted.
use Rattle.std.proofs.Common.{◌≡◌, ◌∙◌, ℕ, ℤ, pos, ◌+ℤ◌, Bool, true, false, ◌&&◌, List, [], ◌∷◌, option_map, Option, Some, None, refl, sym}
use Rattle.std.specs.Option.{option_and_then}
use Rattle.court_clock.specs.declared.direction.Direction.{Direction}
use Rattle.court_clock.specs.declared.direction.Direction.TheVariants.{After, Before}
use Rattle.court_clock.specs.Words.{ClockView}
use Rattle.court_days.specs.Words.{DaysView, rolled}
use Rattle.rule6.specs.declared.service.ServiceKind.{ServiceKind}
use Rattle.rule6.specs.declared.timeliness.Act.{Act}
use Rattle.rule6.specs.declared.timeliness.Act.TheVariants.{Filing, Service}
use Rattle.rule6.specs.declared.timeliness.Filing.{Filing as Done}
use Rattle.rule6.specs.Words.{last_day_of}
use Rattle.rule_periods.specs.declared.expiry.Expiry.TheVariants.{OnDay}
use Rattle.rule_periods.specs.declared.grant.Grant.{Grant}
use Rattle.rule_periods.specs.declared.grant.Grant.TheVariants.{ByDays}
use Rattle.rule_periods.specs.declared.mark.Mark.{Mark}
use Rattle.rule_periods.specs.declared.period.Entered.{Entered}
use Rattle.rule_periods.specs.declared.period.Length.{Length}
use Rattle.rule_periods.specs.declared.period.Length.TheVariants.{Days, Hours, ToDay, ToTime}
use Rattle.rule_periods.specs.declared.period.Period.{Period}
use Rattle.rule_periods.specs.declared.period.Period.TheVariants as period
use Rattle.rule_periods.specs.declared.rule.RulePeriod.TheVariants.{Rule4m, Rule12a1Ai, Rule12a1AiiUs, Rule12a1AiiAbroad, Rule12a1B, Rule12a1C, Rule12a2, Rule12a3, Rule59b, Rule59e}
use Rattle.rule_periods.specs.Words.{DeadlineRowView, EventView, act_due, base_of_period, end_of_length, extended_of, is_given, is_in_hours, is_second_for, kind_adds, shown_after, shown_of, suits, with_grant}
use Rattle.rule_periods.proofs.DeadlineLemmas.{shown_of-push}
use Rattle.reason_notes.specs.Readings.Changed.{adds_days, counted_again, without_added}

-- what is shown of days that are counted again
again_shown : (c : DaysView) (clock : ClockView) (day : ℤ) (n : ℕ) → shown_of c clock (counted_again day n) ≡ shown_after c clock Filing false After (option_map OnDay (rolled c (day +ℤ pos n) After))
unfolding shown_of extended_of base_of_period end_of_length last_day_of
again_shown c clock day n = refl

pub extended_again : (c : DaysView) (clock : ClockView) (row : DeadlineRowView) (n : ℕ) (day : ℤ) → act_due row ≡ Filing → is_in_hours row.period ≡ false → extended_of c clock row ≡ Some (OnDay day) → shown_of c clock (counted_again day n) ≡ shown_of c clock (with_grant row (ByDays n))
extended_again c clock row n day files in_days ends =
    again_shown c clock day n ∙ sym (rw (files, in_days, ends) at (shown_of-push c clock row (ByDays n)))

-- the day of an end that has one
day_of_end : (found : Option ℤ) (day : ℤ) → option_map OnDay found ≡ Some (OnDay day) → found ≡ Some day
day_of_end (Some d) day is = cc
day_of_end None day is = absurd cc

abbrev entered : (days : ℕ) → Mark → Entered
entered days mark = record { length = Days days; direction = After; act = Filing; served = true; mark = mark }

-- the deadline of an entered period from service
abbrev served_row : (days : ℕ) → Mark → EventView → Option ServiceKind → Option Done → DeadlineRowView
served_row days mark event service filed =
    record { period = period.Entered (entered days mark); event = event; second = None; service = service; grants = []; filed = filed }

otherwise : (c : DaysView) (clock : ClockView) (days : ℕ) (mark : Mark) (event : EventView) (service : Option ServiceKind) (filed : Option Done) → extended_of c clock (without_added (served_row days mark event service filed)) ≡ option_map OnDay (rolled c (event.day +ℤ pos days) After)
unfolding extended_of base_of_period end_of_length last_day_of
otherwise c clock days mark event service filed = refl

with_three : (c : DaysView) (clock : ClockView) (days : ℕ) (mark : Mark) (event : EventView) (service : Option ServiceKind) (filed : Option Done) → kind_adds service event.day ≡ true → shown_of c clock (served_row days mark event service filed) ≡ shown_after c clock Filing false After (option_map OnDay (option_and_then (λ last. rolled c (last +ℤ pos 3) After) (rolled c (event.day +ℤ pos days) After)))
unfolding shown_of extended_of base_of_period end_of_length last_day_of
with_three c clock days mark event service filed adds = rw adds refl

added_to : (c : DaysView) (clock : ClockView) (days : ℕ) (mark : Mark) (event : EventView) (service : Option ServiceKind) (filed : Option Done) (day : ℤ) → kind_adds service event.day ≡ true → extended_of c clock (without_added (served_row days mark event service filed)) ≡ Some (OnDay day) → shown_of c clock (counted_again day 3) ≡ shown_of c clock (served_row days mark event service filed)
added_to c clock days mark event service filed day adds ends =
    let expires = day_of_end (rolled c (event.day +ℤ pos days) After) day (sym (otherwise c clock days mark event service filed) ∙ ends) in
    again_shown c clock day 3 ∙ sym (rw expires at (with_three c clock days mark event service filed adds))

-- a test that fails passes with no other
fails : (test : Bool) → (test && false) ≡ true → ⊥
fails true both = absurd cc
fails false both = absurd cc

-- a period from service is counted in days after it
no_side : (given second : Bool) → ((given && false) && second) ≡ true → ⊥
no_side true second both = absurd cc
no_side false second both = absurd cc

abbrev row_of : Period → EventView → Option ℤ → Option ServiceKind → Option Done → DeadlineRowView
row_of p event second service filed =
    record { period = p; event = event; second = second; service = service; grants = []; filed = filed }

abbrev entered_of : Length → Direction → Act → (served : Bool) → Mark → Period
entered_of length direction act served mark =
    period.Entered (record { length = length; direction = direction; act = act; served = served; mark = mark })

by_entered : (c : DaysView) (clock : ClockView) (length : Length) (direction : Direction) (act : Act) (served : Bool) (mark : Mark) (event : EventView) (second : Option ℤ) (service : Option ServiceKind) (filed : Option Done) (day : ℤ) → suits (entered_of length direction act served mark) second service ≡ true → act ≡ Filing → adds_days (row_of (entered_of length direction act served mark) event second service filed) ≡ true → extended_of c clock (without_added (row_of (entered_of length direction act served mark) event second service filed)) ≡ Some (OnDay day) → shown_of c clock (counted_again day 3) ≡ shown_of c clock (row_of (entered_of length direction act served mark) event second service filed)
by_entered c clock length direction Service served mark event second service filed day suits_it files adds ends = absurd cc
by_entered c clock length direction Filing false mark event second service filed day suits_it files adds ends = absurd cc
by_entered c clock length Before Filing true mark event second service filed day suits_it files adds ends = absurd (no_side (is_given service) (is_second_for false second) suits_it)
by_entered c clock (Hours h) After Filing true mark event second service filed day suits_it files adds ends = absurd (no_side (is_given service) (is_second_for false second) suits_it)
by_entered c clock ToDay After Filing true mark event second service filed day suits_it files adds ends = absurd (no_side (is_given service) (is_second_for false second) suits_it)
by_entered c clock ToTime After Filing true mark event second service filed day suits_it files adds ends = absurd (no_side (is_given service) (is_second_for false second) suits_it)
by_entered c clock (Days n) After Filing true mark event (Some d) service filed day suits_it files adds ends = absurd (fails _ suits_it)
by_entered c clock (Days n) After Filing true mark event None service filed day suits_it files adds ends = added_to c clock n mark event service filed day adds ends

-- of the periods that the Rules set, none to file runs from service
by_period : (c : DaysView) (clock : ClockView) (p : Period) (event : EventView) (second : Option ℤ) (service : Option ServiceKind) (filed : Option Done) (day : ℤ) → suits p second service ≡ true → act_due (row_of p event second service filed) ≡ Filing → adds_days (row_of p event second service filed) ≡ true → extended_of c clock (without_added (row_of p event second service filed)) ≡ Some (OnDay day) → shown_of c clock (counted_again day 3) ≡ shown_of c clock (row_of p event second service filed)
by_period c clock (period.Rule Rule4m) event second service filed day suits_it files adds ends = absurd cc
by_period c clock (period.Rule Rule12a1Ai) event second service filed day suits_it files adds ends = absurd cc
by_period c clock (period.Rule Rule12a1AiiUs) event second service filed day suits_it files adds ends = absurd cc
by_period c clock (period.Rule Rule12a1AiiAbroad) event second service filed day suits_it files adds ends = absurd cc
by_period c clock (period.Rule Rule12a1B) event second service filed day suits_it files adds ends = absurd cc
by_period c clock (period.Rule Rule12a1C) event second service filed day suits_it files adds ends = absurd cc
by_period c clock (period.Rule Rule12a2) event second service filed day suits_it files adds ends = absurd cc
by_period c clock (period.Rule Rule12a3) event second service filed day suits_it files adds ends = absurd cc
by_period c clock (period.Rule Rule59b) event second service filed day suits_it files adds ends = absurd cc
by_period c clock (period.Rule Rule59e) event second service filed day suits_it files adds ends = absurd cc
by_period c clock (period.Entered e) event second service filed day suits_it files adds ends =
    by_entered c clock e.length e.direction e.act e.served e.mark event second service filed day suits_it files adds ends

abbrev with_grants : List Grant → DeadlineRowView → DeadlineRowView
with_grants grants row = record row { grants = grants }

by_grants : (c : DaysView) (clock : ClockView) (p : Period) (event : EventView) (second : Option ℤ) (service : Option ServiceKind) (filed : Option Done) (grants : List Grant) (day : ℤ) → suits p second service ≡ true → act_due (row_of p event second service filed) ≡ Filing → grants ≡ [] → adds_days (row_of p event second service filed) ≡ true → extended_of c clock (without_added (with_grants grants (row_of p event second service filed))) ≡ Some (OnDay day) → shown_of c clock (counted_again day 3) ≡ shown_of c clock (with_grants grants (row_of p event second service filed))
by_grants c clock p event second service filed [] day suits_it files none adds ends = by_period c clock p event second service filed day suits_it files adds ends
by_grants c clock p event second service filed (g ∷ grants) day suits_it files none adds ends = absurd cc

pub added_again : (c : DaysView) (clock : ClockView) (row : DeadlineRowView) (day : ℤ) → suits row.period row.second row.service ≡ true → act_due row ≡ Filing → row.grants ≡ [] → adds_days row ≡ true → extended_of c clock (without_added row) ≡ Some (OnDay day) → shown_of c clock (counted_again day 3) ≡ shown_of c clock row
added_again c clock row day suits_it files none adds ends =
    by_grants c clock row.period row.event row.second row.service row.filed row.grants day suits_it files none adds ends
