-- What is pending is the same by facts that are the same of each case.
use Rattle.std.proofs.Common.{◌≡◌, ℕ, ℤ, List, [], ◌∷◌, ◌++◌, Option, Some, None, refl, ap, ◌∙◌}
use Rattle.std.specs.List.{flat_map, range_with_len}
use Rattle.docket_rows.specs.declared.fact.Fact.{Fact}
use Rattle.docket_rows.specs.declared.sheet.Sheet.{Sheet}
use Rattle.docket_selection.specs.declared.pending.PendingItem.{PendingItem}
use Rattle.docket_selection.specs.declared.pending.PendingKind.{PendingKind}
use Rattle.docket_selection.specs.Pending.{listed_under, pending_among, pending_before, pending_from}

-- lists that are the same of each element
flat_map_agree : {X Y : Type 0} (f g : X → List Y) (xs : List X) → ((x : X) → f x ≡ g x) → flat_map f xs ≡ flat_map g xs
flat_map_agree f g [] same = refl
flat_map_agree f g (x ∷ xs) same = ap (λ ys. ys ++ flat_map f xs) (same x) ∙ ap (λ ys. g x ++ ys) (flat_map_agree f g xs same)

module _ (kind : PendingKind) (day : ℤ) (facts others : ℕ → List Fact) (same : (case : ℕ) → facts case ≡ others case) where
  listed_same : (judge : Option ℕ) (s : Sheet) → listed_under kind day facts judge s ≡ listed_under kind day others judge s
  unfolding listed_under
  listed_same judge s = rw (same s.case) refl

  before_same : (sheets : List Sheet) (judge : ℕ) → pending_before kind day facts sheets judge ≡ pending_before kind day others sheets judge
  before_same sheets judge = flat_map_agree (listed_under kind day facts (Some judge)) (listed_under kind day others (Some judge)) sheets (listed_same (Some judge))

  from_same : (sheets : List Sheet) (first count : ℕ) → pending_from kind day facts sheets first count ≡ pending_from kind day others sheets first count
  unfolding pending_from
  from_same sheets first count = flat_map_agree (pending_before kind day facts sheets) (pending_before kind day others sheets) (range_with_len first count) (before_same sheets)

  pub among_same : (sheets : List Sheet) (judges : ℕ) → pending_among kind day facts sheets judges ≡ pending_among kind day others sheets judges
  among_same sheets judges =
      ap (λ (items : List PendingItem). items ++ flat_map (listed_under kind day facts None) sheets) (from_same sheets 0 judges)
      ∙ ap (λ (items : List PendingItem). pending_from kind day others sheets 0 judges ++ items) (flat_map_agree (listed_under kind day facts None) (listed_under kind day others None) sheets (listed_same None))
