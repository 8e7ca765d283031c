-- The day number of the amendment of Rule 6(d).
use Rattle.std.proofs.Common.{◌≡◌, pos, refl}
use Rattle.jiff_core.specs.Calendar.{days_from_civil, day_count, days_of_years, days_of_months}
use Rattle.rule6.specs.Service.{electronic_service_amended}

pub amended_is : electronic_service_amended ≡ pos 17_136
unfolding days_from_civil day_count days_of_years days_of_months
amended_is = refl
