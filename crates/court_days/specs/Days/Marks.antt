-- A list of dates with a mark for each day of a span.
use Rattle.std.specs.Prelude.{◌≡◌, ◌<◌, ◌+ℤ◌, ℕ, ℤ, pos, Bool, false, List, length, slice_index_or}
use Rattle.std.specs.Ordering.{int_eq}
use Rattle.std.specs.List.{IsDistinct}
use Rattle.court_days.specs.Days.{is_among}

-- each date is in the list once, and a day from the first on is marked where it is one of them
pub record AreMarked (first : ℤ) (dates : List ℤ) (marks : List Bool) : Type 0 where
  pub distinct : IsDistinct int_eq dates
  pub marked : (k : ℕ) → k < length marks → slice_index_or marks k false ≡ is_among dates (first +ℤ pos k)
