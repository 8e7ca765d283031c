-- That no extension which is read is an order, and what a row of `reset` says is one.
use Rattle.std.proofs.Common.{◌≡◌, ℕ, ℤ, Bool, true, false, cond, List, [], ◌∷◌, drop, nat_eq, Option, Some, None, option_map, refl}
use Rattle.std.specs.List.{starts_with}
use Rattle.std.specs.Option.{option_or}
use Rattle.court_clock.specs.Words.{day_of_text}
use Rattle.rule_periods.specs.declared.grant.Grant.{Grant}
use Rattle.rule_periods.specs.declared.grant.Grant.TheVariants.{ByDays, ByHours, Until}
use Rattle.rule_periods.specs.Words.{EventView, is_order}
use Rattle.row_forms.specs.Fields.Grants.{grant_of, more_time, reset_to}
use Rattle.row_forms.specs.Fields.Numbers.{count_of}

pub grant_asked : (text : List ℕ) (g : Grant) → grant_of text ≡ Some g → is_order g ≡ false
unfolding grant_of more_time
grant_asked text g h = by (starts_with nat_eq text (43 ∷ [])) (count_of 100 (drop 1 text)) (count_of 104 (drop 1 text)) (day_of_text text) h
  where
    by : (plus : Bool) (days hours : Option ℕ) (day : Option ℤ) → cond plus (option_or (option_map ByDays days) (option_map ByHours hours)) (option_map Until day) ≡ Some g → is_order g ≡ false
    by true (Some n) hours day e = let is : ByDays n ≡ g = cc e in rw (← is) refl
    by true None (Some n) day e = let is : ByHours n ≡ g = cc e in rw (← is) refl
    by true None None day e = cc e
    by false days hours (Some d) e = let is : Until d ≡ g = cc e in rw (← is) refl
    by false days hours None e = cc e

pub reset_ordered : (time : List ℕ) (event : EventView) → is_order (reset_to time event) ≡ true
unfolding reset_to
reset_ordered [] event = refl
reset_ordered (b ∷ time) event = refl
