-- What comes of lines, and how many there are.
use Rattle.std.specs.Prelude.{ℕ, Bool, true, false, List, [], ◌∷◌, ◌++◌}
use Rattle.program_streams.specs.Words.{counted}
use Rattle.desk_session.specs.declared.outcome.Outcome.{Outcome}
use Rattle.desk_session.specs.declared.outcome.Outcome.TheVariants.{Blank, Fault, Held, Refused, Taken}
use Rattle.desk_session.specs.declared.outcome.Tally.{Tally}

abbrev pub is_held : Outcome → Bool
is_held Blank = false
is_held Fault = false
is_held Refused = false
is_held Held = true
is_held Taken = false

abbrev pub no_lines : Tally
no_lines = record { rows = 0; faults = 0; held = 0 }

-- with a line of which this comes
abbrev pub counted_with : Tally → Outcome → Tally
counted_with tally Blank = tally
counted_with tally Fault = record { rows = counted tally.rows 1; faults = counted tally.faults 1; held = tally.held }
counted_with tally Refused = record { rows = counted tally.rows 1; faults = tally.faults; held = tally.held }
counted_with tally Held = record { rows = counted tally.rows 1; faults = tally.faults; held = counted tally.held 1 }
counted_with tally Taken = record { rows = counted tally.rows 1; faults = tally.faults; held = tally.held }

-- the tally of lines, and then of others
abbrev pub tally_with : Tally → (more : Tally) → Tally
tally_with tally more = record { rows = counted tally.rows more.rows; faults = counted tally.faults more.faults; held = counted tally.held more.held }

-- with lines, after the entries `kept`: each counts by what comes of it after what those before it leave
unfoldable pub tally_after : (leaves : List (List ℕ) → List ℕ → List (List ℕ)) → (outcome : List (List ℕ) → List ℕ → Outcome) → Tally → (kept : List (List ℕ)) → List (List ℕ) → Tally
tally_after leaves outcome tally kept [] = tally
tally_after leaves outcome tally kept (line ∷ lines) = tally_after leaves outcome (counted_with tally (outcome kept line)) (kept ++ leaves kept line) lines

-- the tally of lines
abbrev pub tally_of : (leaves : List (List ℕ) → List ℕ → List (List ℕ)) → (outcome : List (List ℕ) → List ℕ → Outcome) → (kept : List (List ℕ)) → List (List ℕ) → Tally
tally_of leaves outcome kept lines = tally_after leaves outcome no_lines kept lines
