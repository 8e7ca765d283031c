-- Whether an act was done in time.
use Rattle.std.specs.Prelude.{ℕ, ◌*◌, int_lt, int_le, nat_le, Bool, true, false, ◌&&◌, ◌||◌, Option, Some, None}
use Rattle.std.specs.Ordering.{int_eq}
use Rattle.court_clock.specs.Words.{ClockView, instant_of}
use Rattle.rule6.specs.declared.timeliness.Act.{Act}
use Rattle.rule6.specs.declared.timeliness.Act.TheVariants as act
use Rattle.rule6.specs.declared.timeliness.Means.{Means}
use Rattle.rule6.specs.declared.timeliness.Means.TheVariants as means
use Rattle.rule6.specs.declared.timeliness.Filing.{Filing}
use Rattle.rule6.specs.declared.timeliness.Shown.{Shown}
use Rattle.rule6.specs.declared.timeliness.Shown.TheVariants.{Last, Until, Beyond}

-- The minute at which the last day ends, if it ends before midnight: for electronic filing the one that a local rule sets, and for
-- other filing the one at which the clerk's office is scheduled to close (Fed. R. Civ. P. 6(a)(4)). Service ends at midnight by any
-- means.
abbrev pub day_end : ClockView → Act → Means → Option ℕ
day_end clock act.Service by = None
day_end clock act.Filing means.Electronic = clock.efiling_until
day_end clock act.Filing means.Paper = Some clock.closes

-- a minute of a day that ends at that one is in time, that minute too
abbrev pub is_by : Option ℕ → ℕ → Bool
is_by None minute = true
is_by (Some end) minute = nat_le minute end

abbrev pub is_within_the_day : ClockView → Act → Means → ℕ → Bool
is_within_the_day clock act by minute = is_by (day_end clock act by) minute

-- Done on an earlier day, or in time on the last day; for a period that ends at an instant, begun at or before it,
-- counting from the first second of the minute. Nothing is in time for a deadline beyond the days covered.
unfoldable pub is_in_time : ClockView → Shown → Filing → Bool
is_in_time clock (Last day act) filing =
    int_lt filing.day day || (int_eq filing.day day && is_within_the_day clock act filing.means filing.minute)
is_in_time clock (Until end) filing = int_le (instant_of clock.zone filing.day (60 * filing.minute)) end
is_in_time clock Beyond filing = false
