-- What an order set is shown as it was set.
use Rattle.std.proofs.Common.{◌≡◌, ◌∙◌, ◌*◌, ℤ, Bool, true, List, [], ◌∷◌, Option, Some, ap, refl}
use Rattle.court_clock.specs.declared.direction.Direction.{Direction}
use Rattle.court_clock.specs.declared.direction.Direction.TheVariants.{After}
use Rattle.court_clock.specs.Words.{ClockView, instant_of}
use Rattle.court_days.specs.Words.{DaysView}
use Rattle.rule6.specs.declared.service.ServiceKind.{ServiceKind}
use Rattle.rule6.specs.declared.timeliness.Act.{Act}
use Rattle.rule6.specs.declared.timeliness.Act.TheVariants.{Filing as ByFiling, Service as ByService}
use Rattle.rule6.specs.declared.timeliness.Filing.{Filing}
use Rattle.rule_periods.specs.declared.expiry.Expiry.{Expiry}
use Rattle.rule_periods.specs.declared.expiry.Expiry.TheVariants.{OnDay, AtInstant}
use Rattle.rule_periods.specs.declared.grant.Grant.{Grant}
use Rattle.rule_periods.specs.declared.grant.Grant.TheVariants.{Reset, ResetAt}
use Rattle.rule_periods.specs.declared.mark.Mark.{Mark}
use Rattle.rule_periods.specs.declared.period.Length.{Length}
use Rattle.rule_periods.specs.declared.period.Length.TheVariants.{Days, Hours, ToDay, ToTime}
use Rattle.rule_periods.specs.declared.period.Period.{Period}
use Rattle.rule_periods.specs.declared.period.Period.TheVariants as period
use Rattle.rule_periods.specs.Base.{base_of_period, end_of_length}
use Rattle.rule_periods.specs.Deadline.{DeadlineRowView}
use Rattle.rule_periods.specs.Due.{act_due}
use Rattle.rule_periods.specs.Event.{EventView}
use Rattle.rule_periods.specs.Extended.{extended_of}
use Rattle.rule_periods.specs.Period.{is_set, is_set_length}
use Rattle.rule_periods.specs.Showing.{ResetEndsStay, SetEndsStay, end_as_set, shown_after, shown_end, shown_of}
use Rattle.rule_periods.proofs.DeadlineLemmas.{shown_of-push}

abbrev row_of : Period → EventView → Option ℤ → Option ServiceKind → List Grant → Option Filing → DeadlineRowView
row_of p event second service grants filed =
    record { period = p; event = event; second = second; service = service; grants = grants; filed = filed }

abbrev entered_of : Length → Direction → Act → (served : Bool) → Mark → Period
entered_of length direction act served mark =
    period.Entered (record { length = length; direction = direction; act = act; served = served; mark = mark })

by_length : (c : DaysView) (clock : ClockView) (length : Length) (direction : Direction) (act : Act) (served : Bool) (mark : Mark) (event : EventView) (second : Option ℤ) (service : Option ServiceKind) (filed : Option Filing) → is_set_length length ≡ true → shown_of c clock (row_of (entered_of length direction act served mark) event second service [] filed) ≡ end_as_set clock (row_of (entered_of length direction act served mark) event second service [] filed)
unfolding shown_of shown_after extended_of base_of_period end_of_length
by_length c clock (Days n) direction act served mark event second service filed set = cc set
by_length c clock (Hours h) direction act served mark event second service filed set = cc set
by_length c clock ToDay direction ByFiling served mark event second service filed set = refl
by_length c clock ToDay direction ByService served mark event second service filed set = refl
by_length c clock ToTime direction ByFiling served mark event second service filed set = refl
by_length c clock ToTime direction ByService served mark event second service filed set = refl

by_period : (c : DaysView) (clock : ClockView) (p : Period) (event : EventView) (second : Option ℤ) (service : Option ServiceKind) (filed : Option Filing) → is_set p ≡ true → shown_of c clock (row_of p event second service [] filed) ≡ end_as_set clock (row_of p event second service [] filed)
by_period c clock (period.Rule rule) event second service filed set = cc set
by_period c clock (period.Entered e) event second service filed set =
    by_length c clock e.length e.direction e.act e.served e.mark event second service filed set

by_grants : (c : DaysView) (clock : ClockView) (p : Period) (event : EventView) (second : Option ℤ) (service : Option ServiceKind) (grants : List Grant) (filed : Option Filing) → is_set p ≡ true → grants ≡ [] → shown_of c clock (row_of p event second service grants filed) ≡ end_as_set clock (row_of p event second service grants filed)
by_grants c clock p event second service [] filed set none = by_period c clock p event second service filed set
by_grants c clock p event second service (g ∷ grants) filed set none = cc none

pub set_ends_stay_lem : SetEndsStay
set_ends_stay_lem c clock row set none =
    by_grants c clock row.period row.event row.second row.service row.grants row.filed set none

-- no outage moves a date certain
certain_stays : (c : DaysView) (clock : ClockView) (act : Act) (end : Expiry) → shown_after c clock act true After (Some end) ≡ shown_end act (Some end)
unfolding shown_after
certain_stays c clock ByFiling end = refl
certain_stays c clock ByService end = refl

pub reset_ends_stay_lem : ResetEndsStay
reset_ends_stay_lem = record {
  on_day = λ c clock row day. shown_of-push c clock row (Reset day) ∙ certain_stays c clock (act_due row) (OnDay day);
  at_time = λ c clock row at.
      shown_of-push c clock row (ResetAt at)
      ∙ certain_stays c clock (act_due row) (AtInstant (instant_of clock.zone at.day (60 * at.minute)));
}
