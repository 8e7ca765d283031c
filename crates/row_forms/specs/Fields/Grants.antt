-- Extensions, ends that orders set, and the notice that a motion needs.
use Rattle.std.specs.Prelude.{ℕ, ℤ, false, List, [], ◌∷◌, codes, drop, nat_eq, Option, Some, option_map, if◌then◌else◌}
use Rattle.std.specs.List.{starts_with}
use Rattle.std.specs.Option.{option_or}
use Rattle.std.specs.Str.{bytes_eq}
use Rattle.court_clock.specs.Words.{day_of_text}
use Rattle.rule_periods.specs.declared.grant.Grant.{Grant}
use Rattle.rule_periods.specs.declared.grant.Grant.TheVariants.{ByDays, ByHours, Until, Reset, ResetAt}
use Rattle.rule_periods.specs.declared.grant.Request.{Request}
use Rattle.rule_periods.specs.Words.{EventView}
use Rattle.hearing_slots.specs.declared.need.Need.{Need}
use Rattle.hearing_slots.specs.declared.need.Need.TheVariants.{ExParte, Days}
use Rattle.row_forms.specs.Fields.Numbers.{count_of, number_of}

-- so much more time: a number of days followed by `d`, or of hours followed by `h`
unfoldable pub more_time : List ℕ → Option Grant
more_time text = option_or (option_map ByDays (count_of 100 text)) (option_map ByHours (count_of 104 text))

-- an extension: `+` and a length, or a date until which there is time
unfoldable pub grant_of : List ℕ → Option Grant
grant_of text =
    if starts_with nat_eq text (43 ∷ []) then more_time (drop 1 text)
    else option_map Until (day_of_text text)

-- another end that an order sets: a day, or where a field says a time that minute of it
unfoldable pub reset_to : (time : List ℕ) → EventView → Grant
reset_to [] at = Reset at.day
reset_to (b ∷ time) at = ResetAt at

-- what an order of that day grants: nothing was asked for, and nothing has to be found
abbrev pub order_dated : ℤ → Grant → Request
order_dated dated grant = record { grant = grant; asked = record { day = dated; minute = 0 }; motion = false; cause = false; neglect = false }

-- the notice that a motion needs: a number of days, or none where it may be heard ex parte
unfoldable pub need_of : List ℕ → Option Need
need_of text = if bytes_eq text (codes "exparte") then Some ExParte else option_map Days (number_of text)
