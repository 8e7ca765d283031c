-- The days that names mark as doubtful.
use Rattle.std.proofs.Common.{◌≡◌, ◌++◌, List}
use Rattle.std.proofs.lemmas.List.Concat.{flat_map-append}
use Rattle.reason_texts.specs.Words.{NamedDay}
use Rattle.report_texts.specs.Holidays.{doubtful_among, if_doubtful}

-- those of some names and of others
pub doubtful_more : (names others : List NamedDay) → doubtful_among (names ++ others) ≡ doubtful_among names ++ doubtful_among others
doubtful_more names others = flat_map-append if_doubtful names others
