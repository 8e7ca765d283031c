-- Days by their date, in the years for which the laws' holidays are stated.
use Rattle.std.specs.Prelude.{ℕ, ◌+◌, ℤ, pos, ◌+ℤ◌, ◌≤ℤ◌}
use Rattle.jiff_core.specs.Calendar.{days_from_civil, IsBetween}

-- the years for which these definitions say what the federal law sets: from 1970, and as the law is now up to 2199
abbrev pub IsStated : ℤ → Type 0
IsStated year = IsBetween (pos 1970) (pos 2199) year

-- a day of a month: `on 7 4 2025` is 4 July 2025
abbrev pub on : ℕ → ℕ → ℤ → ℤ
on month day year = days_from_civil year month day

-- at most n days before the first day of 1970 or after the last of 2199
abbrev pub IsNear : ℕ → ℤ → Type 0
IsNear n d = (pos 0 ≤ℤ (d +ℤ pos n)) × (d ≤ℤ pos (84_005 + n))
