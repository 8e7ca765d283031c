-- What no command changes of a court.
use Rattle.std.specs.Prelude.{ℕ, length}
use Rattle.court_clock.specs.Words.{ClockView}
use Rattle.court_days.specs.Words.{DaysView, CourtView}

-- the court's clock, its days as its file has them, and how many judges and rooms it has, which are numbered from 0
pub record CourtSetup : Type 0 where
  pub clock : ClockView
  pub days : DaysView
  pub judges : ℕ
  pub rooms : ℕ

abbrev pub setup_of : CourtView → CourtSetup
setup_of court = record { clock = court.clock; days = court.days; judges = length court.judges; rooms = length court.rooms }
