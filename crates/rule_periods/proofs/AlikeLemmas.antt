-- By two values that stand for one clock a deadline ends at the same time, and its time may be extended alike.
use Rattle.std.proofs.Common.{◌≡◌, ◌∙◌, ◌*◌, ◌&&◌, ℕ, Bool, List, [], ◌∷◌, Option, Some, None, cond, fold, option_map, refl, ap}
use Rattle.court_clock.specs.declared.direction.Direction.{Direction}
use Rattle.court_clock.specs.declared.direction.Direction.TheVariants.{After}
use Rattle.court_clock.specs.Words.{ClockView, IsSameCourtClock, instant_of}
use Rattle.court_days.specs.Words.{DaysView}
use Rattle.court_clock.proofs.CallerLemmas.{civil_of_alike, instant_alike}
use Rattle.rule6.specs.declared.timeliness.Act.{Act}
use Rattle.rule6.specs.declared.timeliness.Means.TheVariants.{Electronic}
use Rattle.rule6.specs.declared.timeliness.Shown.{Shown}
use Rattle.rule6.specs.declared.timeliness.Shown.TheVariants as shown
use Rattle.rule6.proofs.CallerLemmas.{and_then_alike, end_of_hours_alike, extended_end_alike, in_time_alike}
use Rattle.rule_periods.specs.declared.expiry.Expiry.{Expiry}
use Rattle.rule_periods.specs.declared.expiry.Expiry.TheVariants.{OnDay, AtInstant}
use Rattle.rule_periods.specs.declared.grant.Grant.{Grant}
use Rattle.rule_periods.specs.declared.grant.Grant.TheVariants as grant
use Rattle.rule_periods.specs.declared.grant.Request.{Request}
use Rattle.rule_periods.specs.declared.period.Length.{Length}
use Rattle.rule_periods.specs.declared.period.Length.TheVariants.{Days, Hours, ToDay, ToTime}
use Rattle.rule_periods.specs.declared.period.Period.{Period}
use Rattle.rule_periods.specs.declared.period.Period.TheVariants as period
use Rattle.rule_periods.specs.Base.{base_of_period, end_of_length, kind_adds}
use Rattle.rule_periods.specs.Deadline.{DeadlineRowView, with_grant}
use Rattle.rule_periods.specs.Due.{act_due}
use Rattle.rule_periods.specs.Event.{EventView}
use Rattle.rule_periods.specs.Extended.{by_hours, extended_of, granted, granted_if_it_fits}
use Rattle.rule_periods.specs.Extension.{extension_refusal, is_after_day, is_asked_in_time, is_by_day, is_no_later, request_refusal, reset_refusal}
use Rattle.rule_periods.specs.Grant.{grant_fits}
use Rattle.rule_periods.specs.Period.{direction_of, is_in_hours}
use Rattle.rule_periods.specs.Showing.{access_direction, accessed, certain_by, is_moved_by_access, shown_after, shown_end, shown_of}

module _ (a b : ClockView) (same : IsSameCourtClock a b) where
  -- before any extension
  length_alike : (c : DaysView) (event : EventView) (length : Length) (direction : Direction) (added : Bool) → end_of_length c a event length direction added ≡ end_of_length c b event length direction added
  unfolding end_of_length
  length_alike c event (Days n) direction added = refl
  length_alike c event (Hours h) direction added =
      rw (instant_alike a.zone b.zone same.zone event.day (60 * event.minute), end_of_hours_alike a b same c (instant_of b.zone event.day (60 * event.minute)) h direction) refl
  length_alike c event ToDay direction added = refl
  length_alike c event ToTime direction added = ap (λ t. Some (AtInstant t)) (instant_alike a.zone b.zone same.zone event.day (60 * event.minute))

  pub base_alike : (c : DaysView) (row : DeadlineRowView) (p : Period) → base_of_period c a row p ≡ base_of_period c b row p
  unfolding base_of_period
  base_alike c row (period.Rule rule) = refl
  base_alike c row (period.Entered entered) =
      length_alike c row.event entered.length entered.direction (entered.served && kind_adds row.service row.event.day)

  -- with extensions
  by_hours_alike : (c : DaysView) (h : ℕ) (end : Expiry) → by_hours c a h end ≡ by_hours c b h end
  by_hours_alike c h (OnDay last) = refl
  by_hours_alike c h (AtInstant end) = ap (option_map AtInstant) (end_of_hours_alike a b same c end h After)

  granted_alike : (c : DaysView) (end : Option Expiry) (g : Grant) → granted c a end g ≡ granted c b end g
  granted_alike c end (grant.ByDays n) = refl
  granted_alike c end (grant.ByHours h) = and_then_alike (by_hours c a h) (by_hours c b h) end (by_hours_alike c h)
  granted_alike c end (grant.Until d) = refl
  granted_alike c end (grant.Reset d) = refl
  granted_alike c end (grant.ResetAt at) = ap (λ t. Some (AtInstant t)) (instant_alike a.zone b.zone same.zone at.day (60 * at.minute))

  all_granted_alike : (c : DaysView) (hours : Bool) (end : Option Expiry) (grants : List Grant) → fold (granted_if_it_fits c a hours) end grants ≡ fold (granted_if_it_fits c b hours) end grants
  all_granted_alike c hours end [] = refl
  all_granted_alike c hours end (g ∷ grants) =
      ap (λ e. fold (granted_if_it_fits c a hours) (cond (grant_fits hours g) e None) grants) (granted_alike c end g)
      ∙ all_granted_alike c hours (granted_if_it_fits c b hours end g) grants

  pub extended_alike : (c : DaysView) (row : DeadlineRowView) → extended_of c a row ≡ extended_of c b row
  unfolding extended_of
  extended_alike c row =
      ap (λ end. fold (granted_if_it_fits c a (is_in_hours row.period)) end row.grants) (base_alike c row row.period)
      ∙ all_granted_alike c (is_in_hours row.period) (base_of_period c b row row.period) row.grants

  -- what is shown
  accessed_alike : (c : DaysView) (direction : Direction) (end : Expiry) → accessed c a direction end ≡ accessed c b direction end
  accessed_alike c direction (OnDay last) = refl
  accessed_alike c direction (AtInstant end) = ap (option_map AtInstant) (extended_end_alike a b same c end direction)

  pub shown_after_alike : (c : DaysView) (act : Act) (certain : Bool) (direction : Direction) (end : Option Expiry) → shown_after c a act certain direction end ≡ shown_after c b act certain direction end
  unfolding shown_after
  shown_after_alike c act certain direction end =
      ap (λ moved. shown_end act (cond (is_moved_by_access act certain) moved end)) (and_then_alike (accessed c a direction) (accessed c b direction) end (accessed_alike c direction))

  pub shown_alike : (c : DaysView) (row : DeadlineRowView) → shown_of c a row ≡ shown_of c b row
  unfolding shown_of
  shown_alike c row =
      let certain = certain_by row.period row.grants in
      let direction = access_direction (direction_of row.period) row.grants in
      ap (shown_after c a (act_due row) certain direction) (extended_alike c row)
      ∙ shown_after_alike c (act_due row) certain direction (extended_of c b row)

  -- a request
  pub asked_alike : (now : Shown) (asked : EventView) → is_asked_in_time a now asked ≡ is_asked_in_time b now asked
  asked_alike now asked = in_time_alike a b same now (record { day = asked.day; minute = asked.minute; means = Electronic })

  request_alike : (c : DaysView) (row : DeadlineRowView) (request : Request) → request_refusal c a row request ≡ request_refusal c b row request
  unfolding request_refusal
  request_alike c row request =
      rw (shown_alike c row, shown_alike c (with_grant row request.grant), asked_alike (shown_of c b row) request.asked) refl

  no_later_alike : (now anew : Shown) → is_no_later a now anew ≡ is_no_later b now anew
  no_later_alike (shown.Last d act) (shown.Last e act') = refl
  no_later_alike (shown.Last d act) (shown.Until u) = ap (is_by_day d) (civil_of_alike a.zone b.zone same.zone u)
  no_later_alike (shown.Last d act) shown.Beyond = refl
  no_later_alike (shown.Until t) (shown.Last e act) = ap (is_after_day e) (civil_of_alike a.zone b.zone same.zone t)
  no_later_alike (shown.Until t) (shown.Until u) = refl
  no_later_alike (shown.Until t) shown.Beyond = refl
  no_later_alike shown.Beyond (shown.Last e act) = refl
  no_later_alike shown.Beyond (shown.Until u) = refl
  no_later_alike shown.Beyond shown.Beyond = refl

  reset_alike : (c : DaysView) (row : DeadlineRowView) (request : Request) → reset_refusal c a row request ≡ reset_refusal c b row request
  unfolding reset_refusal
  reset_alike c row request =
      rw (shown_alike c row, shown_alike c (with_grant row request.grant), no_later_alike (shown_of c b row) (shown_of c b (with_grant row request.grant))) refl

  pub extension_alike : (c : DaysView) (row : DeadlineRowView) (request : Request) → extension_refusal c a row request ≡ extension_refusal c b row request
  unfolding extension_refusal
  extension_alike c row request = rw (reset_alike c row request, request_alike c row request) refl
