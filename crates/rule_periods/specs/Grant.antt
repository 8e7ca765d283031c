-- What an extension is, and what an order that sets another end.
use Rattle.std.specs.Prelude.{Bool, true, false, not}
use Rattle.rule_periods.specs.declared.grant.Grant.{Grant}
use Rattle.rule_periods.specs.declared.grant.Grant.TheVariants.{ByDays, ByHours, Until, Reset, ResetAt}
use Rattle.rule_periods.specs.Period.{is_days, is_hour_count}

-- the length of an extension lies in its range
abbrev pub is_grant_length : Grant → Bool
is_grant_length (ByDays n) = is_days n
is_grant_length (ByHours h) = is_hour_count h
is_grant_length (Until d) = true
is_grant_length (Reset d) = true
is_grant_length (ResetAt at) = true

-- the extension is of the kind of the period: by hours for hours, and by days or to a date for days; an order sets an end of either kind
abbrev pub grant_fits : Bool → Grant → Bool
grant_fits hours (ByDays n) = not hours
grant_fits hours (ByHours h) = hours
grant_fits hours (Until d) = not hours
grant_fits hours (Reset d) = true
grant_fits hours (ResetAt at) = true

-- It goes on from a last day, or from an instant: by days from a day alone, and by hours from an instant. The end may be of the other kind
-- than the period once an order has set it.
abbrev pub goes_on_from_day : Bool → Grant → Bool
goes_on_from_day hours (ByDays n) = not hours
goes_on_from_day hours (ByHours h) = false
goes_on_from_day hours (Until d) = not hours
goes_on_from_day hours (Reset d) = true
goes_on_from_day hours (ResetAt at) = true

abbrev pub goes_on_from_instant : Bool → Grant → Bool
goes_on_from_instant hours (ByDays n) = false
goes_on_from_instant hours (ByHours h) = hours
goes_on_from_instant hours (Until d) = not hours
goes_on_from_instant hours (Reset d) = true
goes_on_from_instant hours (ResetAt at) = true

-- an extension to a date certain, or to the end that an order sets
abbrev pub is_certain : Grant → Bool
is_certain (ByDays n) = false
is_certain (ByHours h) = false
is_certain (Until d) = true
is_certain (Reset d) = true
is_certain (ResetAt at) = true

-- an order sets the end itself, sooner or later
abbrev pub is_order : Grant → Bool
is_order (ByDays n) = false
is_order (ByHours h) = false
is_order (Until d) = false
is_order (Reset d) = true
is_order (ResetAt at) = true
