-- When two hearings can't both be held.
use Rattle.std.specs.Prelude.{◌≡◌, ◌⊎◌, ℕ, Contains}
use Rattle.hearing_slots.specs.Words.{LiesIn}
use Rattle.docket_rows.specs.declared.hearing.Hearing.{Hearing}

-- a judge who sits in both
pub record SharesJudge (a b : Hearing) : Type 0 where
  pub judge : ℕ
  pub in_first : Contains a.judges judge
  pub in_second : Contains b.judges judge

-- the two share a judge or the room, and a slot of a day
pub record Clash (a b : Hearing) : Type 0 where
  pub judge_or_room : SharesJudge a b ⊎ (a.room ≡ b.room)
  pub same_day : a.day ≡ b.day
  pub slot : ℕ
  pub in_first : LiesIn a.first a.count slot
  pub in_second : LiesIn b.first b.count slot
