-- Whether the court's file goes on to list holidays of the United States.
use Rattle.std.specs.Prelude.{ℤ, Bool, ◌&&◌, is_none}
use Rattle.court_days.specs.Words.{DaysView, earliest_day, is_among, is_covered}

-- the day is covered, and no covered day of the federal list is at it or after it
unfoldable pub lists_no_more : DaysView → ℤ → Bool
lists_no_more c day = is_covered c day && is_none (earliest_day c (is_among c.federal) day)
