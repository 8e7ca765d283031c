-- What a query sees of what is published.
use Rattle.std.specs.Prelude.{List, [], Option, option_map, unwrap_or, slice_get}
use Rattle.std.specs.Option.{option_and_then}
use Rattle.court_days.specs.Words.{DaysView}
use Rattle.hearing_slots.specs.declared.booking.Booking.{Booking}
use Rattle.docket_rows.specs.declared.part.PartId.{PartId}
use Rattle.docket_rows.specs.declared.part.PartId.TheVariants.{Court, Judge, Room, Case}
use Rattle.docket_rows.specs.declared.part.PartValue.{PartValue}
use Rattle.docket_rows.specs.Words.{Parts, days_in, calendar_in, case_in}
use Rattle.published_docket.specs.declared.cell.Cell.{Cell}
use Rattle.published_docket.specs.Boards.{BoardView}
use Rattle.published_docket.specs.Cells.{cell_of}

-- the value in the cell that has the number of the part
abbrev pub value_shown : BoardView → PartId → Option PartValue
value_shown x part = option_map (λ (s : Cell). s.value) (slice_get x.cells (cell_of part))

abbrev pub days_shown : BoardView → Option DaysView
days_shown x = option_and_then days_in (value_shown x Court)

abbrev pub calendar_shown : BoardView → PartId → Option (List Booking)
calendar_shown x part = option_and_then calendar_in (value_shown x part)

-- the parts, read from the cells; where no cell held the days, they would be those of the court's file
abbrev pub parts_shown : BoardView → Parts
parts_shown x = record {
  days = unwrap_or (days_shown x) x.parts.days;
  case = λ case. option_and_then case_in (value_shown x (Case case));
  judge = λ judge. unwrap_or (calendar_shown x (Judge judge)) [];
  room = λ room. unwrap_or (calendar_shown x (Room room)) [];
}
