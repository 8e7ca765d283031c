-- The first of some parts that wasn't read.
use Rattle.std.specs.Prelude.{ℕ, nat_lt, not, List, [], ◌∷◌, map, filter, find, Option, if◌then◌else◌}
use Rattle.docket_rows.specs.declared.part.PartId.{PartId}
use Rattle.docket_rows.specs.declared.part.PartId.TheVariants.{Judge, Room}
use Rattle.docket_rows.specs.declared.part.PartValue.{PartValue}
use Rattle.docket_rows.specs.Words.{CourtSetup, is_read}

-- the first of some parts, in their order, that isn't among those read
abbrev pub first_unread : List (PartId × PartValue) → List PartId → Option PartId
first_unread reads parts = find (λ part. not (is_read reads part)) parts

-- the calendars of some judges, and of a room, which the court has
abbrev pub judges_of : CourtSetup → (judges : List ℕ) → List PartId
judges_of setup judges = map Judge (filter (λ j. nat_lt j setup.judges) judges)

abbrev pub rooms_of : CourtSetup → (room : ℕ) → List PartId
rooms_of setup room = if nat_lt room setup.rooms then Room room ∷ [] else []
