-- What is written of a court's office: what the court says, or else an example.
use Rattle.std.specs.Borrow.{Bor}
use Rattle.std.specs.Prelude.{◌≡◌, ℕ, nat_lt, Bool, List, [], ◌∷◌, Option, codes, map, unwrap_or}
use Rattle.court_writing.specs.declared.own.Office.{Office}

-- What a court says of its hours, its judges and its rooms, where it says something. Without a minute to which electronic filing runs on
-- a last day the file has no key for it.
pub record OwnView : Type 0 where
  pub opens : Option ℕ
  pub closes : Option ℕ
  pub efiling_until : Option ℕ
  pub judges : Option (List (List ℕ))
  pub rooms : Option (List (List ℕ))

-- in the example the office is open from 08:30 to 17:00
abbrev pub opens_of : OwnView → ℕ
opens_of own = unwrap_or own.opens 510

abbrev pub closes_of : OwnView → ℕ
closes_of own = unwrap_or own.closes 1020

-- and has these judges and rooms
abbrev pub judges_of : OwnView → List (List ℕ)
judges_of own = unwrap_or own.judges (codes "Ames" ∷ codes "Brandt" ∷ codes "Calloway" ∷ [])

abbrev pub rooms_of : OwnView → List (List ℕ)
rooms_of own = unwrap_or own.rooms (codes "1" ∷ codes "2" ∷ codes "3" ∷ [])

-- it opens before it closes
abbrev pub are_hours : OwnView → Bool
are_hours own = nat_lt (opens_of own) (closes_of own)

-- the texts behind references
abbrev pub texts : List (Bor (List ℕ)) → List (List ℕ)
texts = map (λ name. name.now)

-- what is written of the office is that
pub record IsOfficeOf (own : OwnView) (office : Office) : Type 0 where
  pub opens : office.opens ≡ opens_of own
  pub closes : office.closes ≡ closes_of own
  pub efiling_until : office.efiling_until ≡ own.efiling_until
  pub judges : texts office.judges.items ≡ judges_of own
  pub rooms : texts office.rooms.items ≡ rooms_of own
