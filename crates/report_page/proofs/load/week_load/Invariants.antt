use Rattle.std.proofs.Common.{◌≡◌, fold, take}
use Rattle.report_page.specs.Load.{load_after}
use Rattle.report_page.proofs.load.week_load.Given as goal

-- the load of the bookings so far
abbrev pub invariant-loop-booking : goal.invariant-loop-booking
invariant-loop-booking l = l.quarters ≡ fold (load_after l.day) 0 (take l.booking-index l.bookings)
