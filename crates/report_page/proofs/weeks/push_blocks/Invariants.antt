use Rattle.std.proofs.Common.{◌≡◌, ◌++◌, drop}
use Rattle.std.specs.List.{flat_map}
use Rattle.report_page.specs.Weeks.{block_if_on}
use Rattle.report_page.proofs.weeks.push_blocks.Given as goal

-- the blocks so far, and those of the bookings that are left, are all
abbrev pub invariant-loop-booking : goal.invariant-loop-booking
invariant-loop-booking l = l.page ++ flat_map (block_if_on l.labels l.day) (drop l.booking-index l.bookings) ≡ l.fn.page ++ flat_map (block_if_on l.labels l.day) l.bookings
