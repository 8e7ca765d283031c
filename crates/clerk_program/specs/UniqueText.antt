-- What the text of a run of one clerk means: the input determines it, whichever value the court's zone is kept as, and
-- however many entries the journal takes.
use Rattle.std.specs.Prelude.{◌≡◌, ℕ, List, Ok}
use Rattle.program_runs.specs.Words.{Input, input_of}
use Rattle.clerk_program.specs.Text.{IsTextOf}

abbrev pub TextsAreUnique : Type 0
TextsAreUnique = (journal other : ℕ) (bytes : List ℕ) (input : Input) (first second : List ℕ) →
    input_of 1 bytes ≡ Ok input → IsTextOf 1 journal input first → IsTextOf 1 other input second → first ≡ second
