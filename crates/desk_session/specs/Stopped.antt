-- The line at which a list of lines that are kept together stops.
use Rattle.std.specs.Prelude.{ℕ, Bool, true, false, not, List, [], ◌∷◌, ◌++◌, Option, Some, None, if◌then◌else◌}
use Rattle.desk_session.specs.declared.outcome.Outcome.{Outcome}
use Rattle.desk_session.specs.declared.outcome.Outcome.TheVariants.{Blank, Fault, Held, Refused, Taken}
use Rattle.desk_session.specs.declared.together.StoppedLine.{StoppedLine}
use Rattle.desk_session.specs.Outcomes.{is_held}

-- a line at which a list stops: its number in the list, its answer, and whether it is held back, or else is refused or has a fault
pub record Stopped : Type 0 where
  pub number : ℕ
  pub answer : List ℕ
  pub held : Bool

abbrev pub stopped_in : StoppedLine → Stopped
stopped_in line = record { number = line.number; answer = line.answer.items; held = line.held }

-- A list stops at a line of which this comes: at one that has a fault or is held back, and at one that is refused unless those are
-- kept too.
abbrev pub stops : (keep_refused : Bool) → Outcome → Bool
stops keep_refused Blank = false
stops keep_refused Fault = true
stops keep_refused Refused = not keep_refused
stops keep_refused Held = true
stops keep_refused Taken = false

-- the line of that number with that answer, if the list stops at it
abbrev pub stopped_as : (keep_refused : Bool) → Outcome → (number : ℕ) → (answer : List ℕ) → Option Stopped
stopped_as keep_refused outcome number answer = if stops keep_refused outcome then Some (record { number = number; answer = answer; held = is_held outcome }) else None

abbrev pub or_later : Option Stopped → (later : Option Stopped) → Option Stopped
or_later (Some line) later = Some line
or_later None later = later

-- the first of these lines with their numbers at which a list stops, each after what those before it leave
unfoldable pub first_stopped : (leaves : List (List ℕ) → List ℕ → List (List ℕ)) → (answers : List (List ℕ) → List ℕ → List ℕ) → (outcome : List (List ℕ) → List ℕ → Outcome) → (keep_refused : Bool) → (kept : List (List ℕ)) → List (ℕ × List ℕ) → Option Stopped
first_stopped leaves answers outcome keep_refused kept [] = None
first_stopped leaves answers outcome keep_refused kept (line ∷ lines) =
    or_later (stopped_as keep_refused (outcome kept line.1) line.0 (answers kept line.1)) (first_stopped leaves answers outcome keep_refused (kept ++ leaves kept line.1) lines)
