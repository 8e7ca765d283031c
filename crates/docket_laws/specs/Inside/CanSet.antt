-- When a hearing can be set.
use Rattle.std.specs.Prelude.{◌≡◌, ℕ, true, Some}
use Rattle.hearing_slots.specs.Words.{IsFree}
use Rattle.docket_rows.specs.declared.hearing.Setting.{Setting}
use Rattle.docket_rows.specs.Words.{Parts, fits_day, sits}

-- the hearing takes slots of a day, which are free in the calendars of its judges and of its room
pub record CanSet (parts : Parts) (s : Setting) : Type 0 where
  pub fits : fits_day s.first s.count ≡ true
  pub judges : (judge : ℕ) → sits judge s.judges ≡ true → IsFree (parts.judge judge) s.day s.first s.count (Some (s.case, s.motion))
  pub room : IsFree (parts.room s.room) s.day s.first s.count (Some (s.case, s.motion))
