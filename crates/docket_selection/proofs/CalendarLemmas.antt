-- The calendar of a judge, as the docket gives it.
use Rattle.std.proofs.Common.{◌≡◌, ◌∙◌, ℕ, Bool, true, false, List, [], Some, None, ap}
use Rattle.std.specs.Prelude.{nat_lt, filter, if◌then◌else◌}
use Rattle.hearing_slots.specs.declared.booking.Booking.{Booking}
use Rattle.docket_rows.specs.Words.{Rows, parts_of}
use Rattle.docket_core.specs.Words.{DocketView, StandsFor, parts_held}
use Rattle.docket_laws.proofs.CallerLemmas.{hold_same}
use Rattle.docket_selection.specs.declared.choice.Choice.{Choice}
use Rattle.docket_selection.specs.Calendars.{chosen_bookings, is_booking_chosen}

-- what is given where a test holds, is what something comes to there
given : {X : Type 0} (test : Bool) (x y : X) (f : X → List Booking) → Some x ≡ (if test then Some y else None) → f x ≡ (if test then f y else [])
given true x y f e = cc
given false x y f e = cc

-- of the calendar that is given the chosen bookings are those of what is docketed
pub chosen_given : (d : DocketView) (docketed : Rows) (choice : Choice) (judge : ℕ) (calendar : List Booking) → StandsFor d docketed → Some calendar ≡ (if nat_lt judge d.setup.judges then Some ((parts_held d).judge judge) else None) → filter (is_booking_chosen choice) calendar ≡ chosen_bookings d.setup docketed choice judge
unfolding parts_of
chosen_given d docketed choice judge calendar stands is =
    given (nat_lt judge d.setup.judges) calendar ((parts_held d).judge judge) (filter (is_booking_chosen choice)) is
    ∙ ap (λ bookings. if nat_lt judge d.setup.judges then filter (is_booking_chosen choice) bookings else []) ((hold_same (parts_held d) (parts_of docketed) stands).judge judge)
