-- The laws of fields.
use Rattle.std.proofs.Common.{◌≡◌, ◌∙◌, ◌⊎◌, inl, inr, ◌+◌, ◌-◌, ◌≤◌, ◌==◌, ℕ, Bool, true, false, not, List, [], ◌∷◌, take, refl, sym, ap, add-one, arith}
use Rattle.std.specs.Prelude.{ℤ, Option, Some, None, if◌then◌else◌}
use Rattle.std.specs.Ordering.{int_eq}
use Rattle.std.proofs.lemmas.Bool.{ne_eqb}
use Rattle.std.proofs.lemmas.Bool.Decides.{Decides-int_eq, nat_tests}
use Rattle.csv.specs.Records.{field_at}
use Rattle.row_fields.specs.declared.said.Said.TheVariants.{Clear, Unclear}
use Rattle.row_fields.specs.declared.dates.DateOrder.{DateOrder}
use Rattle.row_fields.specs.declared.dates.DateOrder.TheVariants.{MonthFirst, DayFirst}
use Rattle.row_fields.specs.Dates.{date_said, day_alone, day_said, one_alone, picked, three_said, with_first, with_second, words_said}
use Rattle.row_fields.specs.Laws.{IsInNumbers, NoOtherReading, OrderIsKept, PlacesFollowTheirMarks}
use Rattle.row_fields.specs.Line.{count_outside, place_after, separates}

-- what three words say
three_of : (order : Option DateOrder) (first second year : List ℕ) → words_said order (first ∷ second ∷ year ∷ []) ≡ three_said order first second year
unfolding field_at
three_of order first second year = refl

-- a date in numbers
picked_of : (order : Option DateOrder) (text first second year : List ℕ) → IsInNumbers text first second year → date_said order text ≡ picked order (day_said year first second) (day_said year second first)
unfolding date_said
picked_of order text first second year is =
    ap (words_said order) is.words
    ∙ three_of order first second year
    ∙ ap (λ (m : Option (List ℕ)). with_second m order first second year) is.other
    ∙ ap (λ (m : Option (List ℕ)). with_first m order first second year) is.number
    ∙ ap (λ (b : Bool). if b then day_alone (day_said first second year) else picked order (day_said year first second) (day_said year second first)) is.ends

pub order_is_kept_lem : OrderIsKept
order_is_kept_lem text first second year is = (picked_of (Some MonthFirst) text first second year is, picked_of (Some DayFirst) text first second year is)

-- what is clear
clear_is : (a b : ℤ) → Clear a ≡ Clear b → a ≡ b
clear_is a b e = cc e

some_is : (a b : ℤ) → Some a ≡ Some b → a ≡ b
some_is a b e = cc e

-- two readings that are days
both : (x z day other : ℤ) (same : Bool) → int_eq x z ≡ same → (if same then Clear x else Unclear x z) ≡ Clear day → (Some x ≡ Some other) ⊎ (Some z ≡ Some other) → other ≡ day
both x z day other true is said (inl e) = sym (some_is x other e) ∙ clear_is x day said
both x z day other true is said (inr e) = sym (some_is z other e) ∙ sym ((Decides-int_eq x z).0 is) ∙ clear_is x day said
both x z day other false is said given = cc said

-- one of two readings alone
alone : (a b : Option ℤ) (day other : ℤ) → one_alone a b ≡ Clear day → (a ≡ Some other) ⊎ (b ≡ Some other) → other ≡ day
alone None None day other said given = cc said
alone (Some x) None day other said (inl e) = sym (some_is x other e) ∙ clear_is x day said
alone (Some x) None day other said (inr e) = cc e
alone None (Some z) day other said (inl e) = cc e
alone None (Some z) day other said (inr e) = sym (some_is z other e) ∙ clear_is z day said
alone (Some x) (Some z) day other said given = both x z day other (int_eq x z) refl said given

pub no_other_reading_lem : NoOtherReading
no_other_reading_lem text first second year day is said other given =
    alone (day_said year first second) (day_said year second first) day other (sym (picked_of None text first second year is) ∙ said) given

-- one byte more before a place
taken : (n b : ℕ) (rest : List ℕ) → take (n + 1) (b ∷ rest) ≡ b ∷ take n rest
taken n b rest = rw (add-one n) refl

-- a byte that is a blank
is_this : (b n : ℕ) → (b == n) ≡ true → b ≡ n
is_this b n test = grind (arith, nat_tests)

no_mark : (mark b : ℕ) (quoted : Bool) → (mark ≡ 32 → ⊥) → (b == 32) ≡ true → separates b mark quoted ≡ false
no_mark mark b quoted none test = rw (is_this b 32 test) rw (ne_eqb 32 mark (λ e. none (sym e))) refl

-- no mark comes before the first field's place
module _ (mark : ℕ) (no_blank : mark ≡ 32 → ⊥) where
  none_before : (quoted within : Bool) (line : List ℕ) → count_outside mark quoted (take (place_after mark 0 within line) line) ≡ 0
  unfolding count_outside place_after
  none_before quoted within [] = refl
  none_before quoted within (b ∷ rest) = by (λ q. none_before q within rest) (b == 34) refl (b == 32) refl
    where
      by : ((q : Bool) → count_outside mark q (take (place_after mark 0 within rest) rest) ≡ 0) → (quote : Bool) → (b == 34) ≡ quote → (blank : Bool) → (b == 32) ≡ blank → count_outside mark quoted (take (place_after mark 0 within (b ∷ rest)) (b ∷ rest)) ≡ 0
      by later true e true f = rw (e, f) rw (taken (place_after mark 0 within rest) b rest) rw e (later (not quoted))
      by later true e false f = rw (e, f) rw (taken (place_after mark 0 within rest) b rest) rw e (later (not quoted))
      by later false e true f = rw (e, f) rw (taken (place_after mark 0 within rest) b rest) rw (e, no_mark mark b quoted no_blank f) (later quoted)
      by later false e false f = rw (e, f) refl

  -- as many come before the place of a field as there are fields before it
  marks_before : (number : ℕ) (quoted : Bool) (line : List ℕ) → number ≤ count_outside mark quoted line → count_outside mark quoted (take (place_after mark number quoted line) line) ≡ number
  unfolding count_outside place_after
  marks_before number quoted [] within = omega (arith, within)
  marks_before number quoted (b ∷ rest) within = by (λ n q. marks_before n q rest) (number == 0) refl (b == 34) refl (separates b mark quoted) refl
    where
      by : ((n : ℕ) (q : Bool) → n ≤ count_outside mark q rest → count_outside mark q (take (place_after mark n q rest) rest) ≡ n)
          → (none : Bool) → (number == 0) ≡ none → (quote : Bool) → (b == 34) ≡ quote → (here : Bool) → separates b mark quoted ≡ here
          → count_outside mark quoted (take (place_after mark number quoted (b ∷ rest)) (b ∷ rest)) ≡ number
      by later true e quote f here g = rw (is_this number 0 e) (none_before quoted quoted (b ∷ rest))
      by later false e true f here g =
          let less : number ≤ count_outside mark (not quoted) rest = rw f at within in
          rw (e, f) rw (taken (place_after mark number (not quoted) rest) b rest) rw f (later number (not quoted) less)
      by later false e false f true g =
          let some : number ≡ (number - 1) + 1 = grind (arith, nat_tests) in
          let more : number ≤ count_outside mark quoted rest + 1 = rw (f, g) at within in
          let less : number - 1 ≤ count_outside mark quoted rest = omega (arith, more) in
          rw (e, f, g) rw (taken (place_after mark (number - 1) quoted rest) b rest) rw (f, g) (ap (λ (n : ℕ). n + 1) (later (number - 1) quoted less) ∙ sym some)
      by later false e false f false g =
          let less : number ≤ count_outside mark quoted rest = rw (f, g) at within in
          rw (e, f, g) rw (taken (place_after mark number quoted rest) b rest) rw (f, g) (later number quoted less)

pub places_follow_their_marks_lem : PlacesFollowTheirMarks
places_follow_their_marks_lem mark number line no_blank within = marks_before mark no_blank number false line within
