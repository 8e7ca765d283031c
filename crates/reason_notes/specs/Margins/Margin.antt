-- By how much an act was in time or late.
use Rattle.std.specs.Prelude.{◌≡◌, ℕ, ◌*◌, ◌-◌, ◌-ℤ◌, int_lt, int_le, unsigned_abs, unwrap_or, Bool, true, false, Option, if◌then◌else◌}
use Rattle.court_clock.specs.Words.{ClockView, instant_of}
use Rattle.rule6.specs.declared.timeliness.Filing.{Filing}
use Rattle.rule6.specs.declared.timeliness.Shown.{Shown}
use Rattle.rule6.specs.declared.timeliness.Shown.TheVariants.{Last, Until, Beyond}
use Rattle.rule6.specs.Words.{day_end, is_by, is_in_time}
use Rattle.rule_periods.specs.Words.{is_beyond}
use Rattle.reason_notes.specs.declared.margins.margin.Margin.{Margin}
use Rattle.reason_notes.specs.declared.margins.margin.Margin.TheVariants.{DaysEarly, OnLastDay, AfterDayEnd, DaysLate, SecondsEarly, SecondsLate, Undecided}

-- on the last day, which ends at this minute, or at midnight where there is none
abbrev pub on_last_day : (end : Option ℕ) → (minute : ℕ) → Margin
on_last_day end minute = if is_by end minute then OnLastDay else AfterDayEnd (minute - unwrap_or end 1440)

-- Days are counted from the day of the act to the last day, or from that to the act. On the last day itself an act is in time
-- or comes after the minute at which the day ends for its means. For a period that ends at an instant the seconds count, from the first of the
-- act's minute. Where no covered day ends the time nothing is decided: a court's file that covers more days may show an act in time.
unfoldable pub margin_of : ClockView → Shown → Filing → Margin
margin_of clock (Last day act) filing =
    if int_lt filing.day day then DaysEarly (unsigned_abs (day -ℤ filing.day))
    else if int_lt day filing.day then DaysLate (unsigned_abs (filing.day -ℤ day))
    else on_last_day (day_end clock act filing.means) filing.minute
margin_of clock (Until end) filing =
    let done = instant_of clock.zone filing.day (60 * filing.minute) in
    if int_le done end then SecondsEarly (unsigned_abs (end -ℤ done)) else SecondsLate (unsigned_abs (done -ℤ end))
margin_of clock Beyond filing = Undecided

-- the margins of acts that were in time
abbrev pub is_timely_by : Margin → Bool
is_timely_by (DaysEarly days) = true
is_timely_by OnLastDay = true
is_timely_by (SecondsEarly seconds) = true
is_timely_by (AfterDayEnd minutes) = false
is_timely_by (DaysLate days) = false
is_timely_by (SecondsLate seconds) = false
is_timely_by Undecided = false

-- the margin that decides nothing
abbrev pub is_undecided_by : Margin → Bool
is_undecided_by Undecided = true
is_undecided_by (DaysEarly days) = false
is_undecided_by OnLastDay = false
is_undecided_by (SecondsEarly seconds) = false
is_undecided_by (AfterDayEnd minutes) = false
is_undecided_by (DaysLate days) = false
is_undecided_by (SecondsLate seconds) = false

-- An act was timely exactly where its margin says so, and its margin decides nothing exactly where no covered day ends the time.
pub record MarginDecides (clock : ClockView) (shown : Shown) (filing : Filing) : Type 0 where
  pub timely : is_timely_by (margin_of clock shown filing) ≡ is_in_time clock shown filing
  pub undecided : is_undecided_by (margin_of clock shown filing) ≡ is_beyond shown

abbrev pub MarginsDecide : Type 0
MarginsDecide = (clock : ClockView) (shown : Shown) (filing : Filing) → MarginDecides clock shown filing
