-- The names that `+` joins.
use Rattle.std.proofs.Common.{◌≡◌, ◌≤◌, ◌↔◌, ℕ, false, List, [], ◌∷◌, Option, Some, None, length, cond, leb, map, IsSome, IfSome, refl, ap, arith}
use Rattle.std.specs.List.{slice_split}
use Rattle.std.proofs.lemmas.Bool.Decides.{nat_tests}
use Rattle.std.proofs.lemmas.List.Splits.{length-slice_split}
use Rattle.row_forms.specs.Fields.Cut.{cut_at, is_byte}
use Rattle.row_forms.specs.Fields.Hearings.{panel_named}
use Rattle.row_forms.specs.CourtNames.{number_named}
use Rattle.row_forms.proofs.CutLemmas.{parts-cut, parts-uncut}

-- a panel of one to three
pub panel_made : (r : Option (List ℕ)) (judges : List ℕ) → (IsSome r ↔ ((1 ≤ length judges) × (length judges ≤ 3))) → IfSome r (λ panel. panel ≡ judges) → (1 ≤ length judges) × (length judges ≤ 3) → r ≡ Some judges
panel_made None judges some value few = cc (some.1 few)
panel_made (Some panel) judges some value few = ap Some value

pub one_name : (names : List (List ℕ)) (field : List ℕ) → cut_at 43 field ≡ None → panel_named names field ≡ Some (number_named names field ∷ [])
unfolding panel_named
one_name names field uncut = rw (parts-uncut 43 field uncut) refl

pub two_names : (names : List (List ℕ)) (field first second : List ℕ) → cut_at 43 field ≡ Some (first, second) → cut_at 43 second ≡ None
    → panel_named names field ≡ Some (number_named names first ∷ number_named names second ∷ [])
unfolding panel_named
two_names names field first second cut uncut = rw (parts-cut 43 field first second cut, parts-uncut 43 second uncut) refl

pub three_names : (names : List (List ℕ)) (field first more second third : List ℕ) → cut_at 43 field ≡ Some (first, more) → cut_at 43 more ≡ Some (second, third) → cut_at 43 third ≡ None
    → panel_named names field ≡ Some (number_named names first ∷ number_named names second ∷ number_named names third ∷ [])
unfolding panel_named
three_names names field first more second third cut again uncut = rw (parts-cut 43 field first more cut, parts-cut 43 more second third again, parts-uncut 43 third uncut) refl

pub four_names : (names : List (List ℕ)) (field first more second third : List ℕ) (fourth rest : List ℕ) → cut_at 43 field ≡ Some (first, more) → cut_at 43 more ≡ Some (second, third) → cut_at 43 third ≡ Some (fourth, rest)
    → panel_named names field ≡ None
unfolding panel_named
four_names names field first more second third fourth rest cut again too_many =
    rw (parts-cut 43 field first more cut, parts-cut 43 more second third again, parts-cut 43 third fourth rest too_many) (by (slice_split (is_byte 43) rest) (some_part rest))
  where
    by : (parts : List (List ℕ)) → 1 ≤ length parts
        → cond (leb (length (first ∷ second ∷ fourth ∷ parts)) 3) (Some (map (number_named names) (first ∷ second ∷ fourth ∷ parts))) None ≡ None
    by parts some = let many : leb (length (first ∷ second ∷ fourth ∷ parts)) 3 ≡ false = grind (arith, nat_tests) in rw many refl

    some_part : (text : List ℕ) → 1 ≤ length (slice_split (is_byte 43) text)
    some_part text = let counted = length-slice_split (is_byte 43) text in omega arith
