-- The commands of schedules.
use Rattle.std.specs.Prelude.{◌≡◌, ℕ, List, map, Ok}
use Rattle.court_days.specs.Words.{CourtView}
use Rattle.docket_rows.specs.declared.command.Command.{Command as CommandOf}
use Rattle.row_forms.specs.declared.row.Row.{Row}
use Rattle.row_forms.specs.declared.row.Work.TheVariants.{Command}
use Rattle.row_forms.specs.Words.{names_of, rows_read}

-- the rows ask for these commands, one each, and for nothing else
abbrev pub AreAsked : List Row → List CommandOf → Type 0
AreAsked rows commands = map (λ (r : Row). r.work) rows ≡ map Command commands

-- these are the commands of all rows, which are of 64 clerks at the most
pub record AreCommands (court : CourtView) (bytes : List ℕ) (commands : List CommandOf) : Type 0 where
  pub rows : List Row
  pub are_rows : rows_read 64 (names_of court) bytes ≡ Ok rows
  pub are_asked : AreAsked rows commands
