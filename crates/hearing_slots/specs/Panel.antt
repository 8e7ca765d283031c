-- The judges of a panel, kept in the first of three places; the others hold zeros.
use Rattle.std.specs.Prelude.{◌≡◌, ℕ, ◌-◌, ◌≤◌, List, ◌++◌, length, take, drop, replicate}
use Rattle.std.proofs.Common.{ap, subst, sym, ◌∙◌, length-take-le, take-append-drop}
use Rattle.hearing_slots.specs.declared.panel.Panel.TheInside.{Inside}

-- the judges, in the order in which they were named
abbrev pub judges_of : Inside → List ℕ
judges_of p = take p.count p.numbers

-- one to three judges, and zeros in the places after them
pub record IsPanel (p : Inside) : Type 0 where
  pub some_judge : 1 ≤ p.count
  pub at_most_three : p.count ≤ 3
  pub places : length p.numbers ≡ 3
  pub zeros : drop p.count p.numbers ≡ replicate (3 - p.count) 0

-- the panel of these judges, of whom there are `count`
abbrev pub placed : (judges : List ℕ) (count : ℕ) → Inside
placed judges count = record { numbers = judges ++ replicate (3 - count) 0; count = count }

-- the panel of one to three judges
abbrev pub panel_of : List ℕ → Inside
panel_of judges = placed judges (length judges)

-- a panel is that of its judges
pub panel_of-judges_of : (p : Inside) → IsPanel p → panel_of (judges_of p) ≡ p
panel_of-judges_of p h =
    let within : p.count ≤ length p.numbers = subst (λ (n : ℕ). p.count ≤ n) (sym h.places) h.at_most_three in
    let with_places : List ℕ → Inside = λ places. record { numbers = places; count = p.count } in
    ap (placed (judges_of p)) (length-take-le p.count p.numbers within)
    ∙ ap (λ (zeros : List ℕ). with_places (judges_of p ++ zeros)) (sym h.zeros)
    ∙ ap with_places (take-append-drop p.count p.numbers)
