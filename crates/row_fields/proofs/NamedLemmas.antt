-- The codes of sections, each looked at beside those after it.
use Rattle.std.proofs.Common.{◌≡◌, refl}
use Rattle.row_fields.specs.Named.{CodesNameSections, codes_differ, has_code, named_periods}

pub codes_name_sections_lem : CodesNameSections
unfolding codes_differ has_code named_periods
codes_name_sections_lem = refl
