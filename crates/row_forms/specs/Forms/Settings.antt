-- When and where a hearing is set, as `book` and `move` have it.
use Rattle.std.specs.Prelude.{ℕ, List, Result, Ok}
use Rattle.docket_rows.specs.declared.hearing.Setting.{Setting}
use Rattle.row_forms.specs.declared.fault.RowCause.{RowCause}
use Rattle.row_forms.specs.Columns.{◌>>=◌, column, in_column, day_in, number_in}
use Rattle.row_forms.specs.Fields.Hearings.{panel_named, slots_of}
use Rattle.row_forms.specs.Fields.Times.{slot_at}
use Rattle.row_forms.specs.CourtNames.{number_named}

-- columns 3 to 10, `CASE,MOTION,JUDGE,ROOM,DATE,TIME,SLOTS,NOTICE`, in a court with these judges and rooms: any text is read as a room
unfoldable pub setting_in : (all_judges all_rooms : List (List ℕ)) → List (List ℕ) → Result Setting RowCause
setting_in all_judges all_rooms fields = do
  case ← number_in fields 3
  motion ← number_in fields 4
  judges ← in_column 5 (panel_named all_judges (column fields 5))
  day ← day_in fields 7
  first ← in_column 8 (slot_at (column fields 8))
  count ← in_column 9 (slots_of (column fields 9))
  notice ← day_in fields 10
  Ok (record { case = case; motion = motion; judges = judges; room = number_named all_rooms (column fields 6); day = day; first = first; count = count; notice = notice })
