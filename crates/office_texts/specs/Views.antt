-- The text of what a query shows.
use Rattle.std.specs.Prelude.{ℕ, List, [], ◌∷◌, ◌++◌, codes}
use Rattle.court_days.specs.Words.{CourtView}
use Rattle.docket_rows.specs.declared.view.View.{View}
use Rattle.docket_rows.specs.declared.view.View.TheVariants as view
use Rattle.office_texts.specs.Calendars.{booking_lines}
use Rattle.office_texts.specs.Refusals.{refusal_text}
use Rattle.office_texts.specs.Sheets.{sheet_lines}
use Rattle.office_texts.specs.Shown.{shown_text}

-- a line; after `sheet` and `calendar` come the lines of the sheet and of that day's bookings
unfoldable pub view_lines : CourtView → View → List ℕ
view_lines court (view.Sheet s) = codes "sheet" ++ 10 ∷ sheet_lines court s
view_lines court (view.Bookings bookings) = codes "calendar" ++ 10 ∷ booking_lines court bookings
view_lines court (view.Computed end) = shown_text court.clock end ++ 10 ∷ []
view_lines court (view.Refused refusal) = codes "refused " ++ refusal_text refusal ++ 10 ∷ []
