-- Days that follow one another, and the first of them that passes a test.
use Rattle.std.specs.Prelude.{ℕ, zero, suc, ℤ, pos, ◌+ℤ◌, ◌-ℤ◌, int_le, Bool, Option, Some, None, unsigned_abs, if◌then◌else◌}

-- the first of n days from d on that passes the test
unfoldable pub first_passing : (ℤ → Bool) → ℕ → ℤ → Option ℤ
first_passing test zero d = None
first_passing test (suc n) d = if test d then Some d else first_passing test n (d +ℤ pos 1)

-- the first of n days from d backward that passes the test
unfoldable pub last_passing : (ℤ → Bool) → ℕ → ℤ → Option ℤ
last_passing test zero d = None
last_passing test (suc n) d = if test d then Some d else last_passing test n (d -ℤ pos 1)

-- how many days there are from one day to another, both counted
abbrev pub days_through : ℤ → ℤ → ℕ
days_through a b = if int_le a b then suc (unsigned_abs (b -ℤ a)) else 0

-- the later of two days, and the earlier
abbrev pub later_day : ℤ → ℤ → ℤ
later_day a b = if int_le a b then b else a

abbrev pub earlier_day : ℤ → ℤ → ℤ
earlier_day a b = if int_le a b then a else b
