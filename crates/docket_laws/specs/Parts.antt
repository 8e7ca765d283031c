-- What the laws of parts say.
use Rattle.std.specs.Prelude.{◌≡◌, None, unwrap_or}
use Rattle.docket_rows.specs.declared.command.Command.{Command}
use Rattle.docket_rows.specs.declared.part.PartId.{PartId}
use Rattle.docket_rows.specs.declared.query.Query.{Query}
use Rattle.docket_rows.specs.Words.{AreSound, CourtSetup, Parts, Rows, answered, changed, part_after, part_value, parts_of, refusal, rows_after, seen_by, step}

-- after a command that isn't refused each part is that of the rows after it: a part that the command writes holds what it
-- writes there, and every other part holds what it held
abbrev pub PartsStandForRowsAfter : Type 0
PartsStandForRowsAfter =
    (setup : CourtSetup) (rows : Rows) (command : Command)
    → AreSound setup rows
    → refusal setup (parts_of rows) command ≡ None
    → (part : PartId)
    → part_value (parts_of (rows_after rows command)) part ≡ unwrap_or (changed (parts_of rows) command part) (part_value (parts_of rows) part)

-- the two hold the same in each part
abbrev pub HoldAlike : (p q : Parts) → Type 0
HoldAlike p q = (part : PartId) → part_value p part ≡ part_value q part

-- where parts hold what the rows say, a command is answered on them as the step of the rows is, and after it, refused or
-- not, they hold what the rows say after that step
pub record PartsFollowTheStepsOfRows : Type 0 where
  pub answers : (setup : CourtSetup) (p : Parts) (rows : Rows) (command : Command) → HoldAlike p (parts_of rows) → answered setup p command ≡ (step setup rows command).1
  pub parts : (setup : CourtSetup) (p : Parts) (rows : Rows) (command : Command) → AreSound setup rows → HoldAlike p (parts_of rows) → (part : PartId) → part_after setup p command part ≡ part_value (parts_of (step setup rows command).0) part

-- why a command is refused, what it is answered and what it writes rest on what the parts hold, and on nothing else
pub record CommandsRestOnParts : Type 0 where
  pub refused : (setup : CourtSetup) (p q : Parts) (command : Command) → HoldAlike p q → refusal setup p command ≡ refusal setup q command
  pub answers : (setup : CourtSetup) (p q : Parts) (command : Command) → HoldAlike p q → answered setup p command ≡ answered setup q command
  pub writes : (p q : Parts) (command : Command) → HoldAlike p q → (part : PartId) → changed p command part ≡ changed q command part

-- so does what a query shows
abbrev pub QueriesRestOnParts : Type 0
QueriesRestOnParts = (setup : CourtSetup) (p q : Parts) (query : Query) → HoldAlike p q → seen_by setup p query ≡ seen_by setup q query
