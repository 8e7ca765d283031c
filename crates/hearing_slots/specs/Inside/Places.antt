-- Where an item is in a list that is by number.
use Rattle.std.specs.Prelude.{◌≡◌, ℕ, ◌+◌, ◌<◌, ◌≤◌, ℤ, ◌<ℤ◌, List, length}
use Rattle.std.specs.List.{AllWithin, HoldsAt}

-- the item of that number is at the place
pub record IsAt {X : Type 0} (number_of : X → ℤ) (items : List X) (number : ℤ) (place : ℕ) : Type 0 where
  pub in_range : place < length items
  pub before : AllWithin (λ x. number_of x <ℤ number) items 0 place
  pub here : HoldsAt (λ x. number_of x ≡ number) items place
  pub behind : AllWithin (λ x. number <ℤ number_of x) items (place + 1) (length items)

-- no item has that number, and one would go to the place
pub record IsGapAt {X : Type 0} (number_of : X → ℤ) (items : List X) (number : ℤ) (place : ℕ) : Type 0 where
  pub in_range : place ≤ length items
  pub before : AllWithin (λ x. number_of x <ℤ number) items 0 place
  pub behind : AllWithin (λ x. number <ℤ number_of x) items place (length items)
