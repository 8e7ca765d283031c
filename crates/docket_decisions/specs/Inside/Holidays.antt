-- The hearings that a holiday looks for.
use Rattle.std.specs.Prelude.{Bool, List, [], ◌∷◌, Option, Some}
use Rattle.std.specs.Option.{option_map_or}
use Rattle.court_days.specs.Words.{DaysView}
use Rattle.hearing_slots.specs.declared.booking.Booking.{Booking}
use Rattle.hearing_slots.specs.Words.{is_on}
use Rattle.docket_rows.specs.Words.{lesser, lacks_notice}
use Rattle.docket_decisions.specs.declared.holidays.Sought.{Sought}
use Rattle.docket_decisions.specs.declared.holidays.Sought.TheVariants.{OnDay, Unnoticed}

-- the hearing is on the day, or lacks its notice by these days
abbrev pub sought_test : Sought → DaysView → Booking → Bool
sought_test (OnDay day) days b = is_on day b
sought_test Unnoticed days b = lacks_notice days b

-- the first by case and motion of some bookings and another one
abbrev pub least_before : List Booking → Option Booking → Option Booking
least_before [] other = other
least_before (b ∷ bs) other = Some (option_map_or (lesser b) (least_before bs other) b)
