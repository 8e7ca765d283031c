-- What margins come to, for the crates above.
use Rattle.std.proofs.Common.{◌*◌, ◌-◌, ◌-ℤ◌, int_le, int_lt, unsigned_abs, unwrap_or, if◌then◌else◌, refl}
use Rattle.court_clock.specs.Words.{ClockView, instant_of}
use Rattle.rule6.specs.declared.timeliness.Filing.{Filing}
use Rattle.rule6.specs.declared.timeliness.Shown.{Shown}
use Rattle.rule6.specs.declared.timeliness.Shown.TheVariants.{Last, Until, Beyond}
use Rattle.rule6.specs.Words.{day_end, is_in_time, is_within_the_day}
use Rattle.reason_notes.specs.declared.margins.margin.Margin.TheVariants.{DaysEarly, OnLastDay, AfterDayEnd, DaysLate, SecondsEarly, SecondsLate}
use Rattle.reason_notes.specs.Margins.Margin.{MarginDecides, margin_of}
use Rattle.reason_notes.proofs.MarginsLemmas.MarginLemmas.{decided_if, timely_by_day, timely_if}

pub margin_decides : (clock : ClockView) (shown : Shown) (filing : Filing) → MarginDecides clock shown filing
unfolding margin_of is_in_time
margin_decides clock (Last day act) filing =
    let within = is_within_the_day clock act filing.means filing.minute in
    let after = filing.minute - unwrap_or (day_end clock act filing.means) 1440 in
    record {
      timely = timely_by_day filing.day day within after;
      undecided = decided_if (int_lt filing.day day) (DaysEarly (unsigned_abs (day -ℤ filing.day))) (if int_lt day filing.day then DaysLate (unsigned_abs (filing.day -ℤ day)) else if within then OnLastDay else AfterDayEnd after) refl
          (decided_if (int_lt day filing.day) (DaysLate (unsigned_abs (filing.day -ℤ day))) (if within then OnLastDay else AfterDayEnd after) refl (decided_if within OnLastDay (AfterDayEnd after) refl refl));
    }
margin_decides clock (Until end) filing =
    let done = instant_of clock.zone filing.day (60 * filing.minute) in
    let early = SecondsEarly (unsigned_abs (end -ℤ done)) in
    let late = SecondsLate (unsigned_abs (done -ℤ end)) in
    record { timely = timely_if (int_le done end) early late refl refl; undecided = decided_if (int_le done end) early late refl refl }
margin_decides clock Beyond filing = record { timely = refl; undecided = refl }
