-- What takes memory, besides commands. What takes none is answered even where no memory is left.
use Rattle.std.specs.Prelude.{Bool, true, false, Option, Some, None}
use Rattle.docket_rows.specs.declared.refusal.Refusal.{Refusal}
use Rattle.docket_rows.specs.declared.refusal.Refusal.TheVariants.{NoticeLost}
use Rattle.docket_rows.specs.declared.view.View.{View}
use Rattle.docket_rows.specs.declared.view.View.TheVariants as view

-- whether a decision takes memory, by why its command is refused: what the command writes is copied
abbrev pub decision_takes_memory : Option Refusal → Bool
decision_takes_memory (Some (NoticeLost case motion)) = true
decision_takes_memory (Some refusal) = false
decision_takes_memory None = true

-- whether a query takes memory, by what it shows: a sheet and a day's bookings are lists, and nothing else is
abbrev pub view_takes_memory : View → Bool
view_takes_memory (view.Sheet sheet) = true
view_takes_memory (view.Bookings bookings) = true
view_takes_memory (view.Computed shown) = false
view_takes_memory (view.Refused refusal) = false
