-- Whether two ends are one, or two last days for affidavits: then their texts are alike, and none has to be written.
use Rattle.std.specs.Prelude.{◌&&◌, ℤ, Bool, true, false, Option, Some, None}
use Rattle.std.specs.Ordering.{int_eq}
use Rattle.rule6.specs.declared.timeliness.Act.{Act}
use Rattle.rule6.specs.declared.timeliness.Act.TheVariants.{Filing, Service}
use Rattle.rule6.specs.declared.timeliness.Shown.{Shown}
use Rattle.rule6.specs.declared.timeliness.Shown.TheVariants.{Beyond, Last, Until}

abbrev pub is_same_act : (x y : Act) → Bool
is_same_act Filing Filing = true
is_same_act Service Service = true
is_same_act _ _ = false

abbrev pub is_same_end : (x y : Shown) → Bool
is_same_end (Last day act) (Last other due) = int_eq day other && is_same_act act due
is_same_end (Until at) (Until other) = int_eq at other
is_same_end Beyond Beyond = true
is_same_end _ _ = false

abbrev pub is_same_day : (x y : Option ℤ) → Bool
is_same_day (Some day) (Some other) = int_eq day other
is_same_day None None = true
is_same_day _ _ = false
