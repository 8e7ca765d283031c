-- The next day with a weekday.
use Rattle.std.proofs.Common.{arith}
use Rattle.jiff_core.proofs.SignedLemmas.{signed_arith}
use Rattle.program_main.specs.Texts.Days.{WeekdaysComeNext}

pub weekdays_come_next : WeekdaysComeNext
weekdays_come_next today weekday few = record {
  has = omega (arith, signed_arith, few);
  from = omega (arith, signed_arith, few);
  first = λ other from has. omega (arith, signed_arith, few, from, has);
}
