-- The day numbers of the amendments from which the table of periods is right.
use Rattle.std.proofs.Common.{◌≡◌, pos, refl}
use Rattle.jiff_core.specs.Calendar.{days_from_civil, day_count, days_of_years, days_of_months}
use Rattle.rule_periods.specs.Rule.{counting_amended, summons_amended}

pub counting_amended_is : counting_amended ≡ pos 14_579
unfolding days_from_civil day_count days_of_years days_of_months
counting_amended_is = refl

pub summons_amended_is : summons_amended ≡ pos 16_770
unfolding days_from_civil day_count days_of_years days_of_months
summons_amended_is = refl
