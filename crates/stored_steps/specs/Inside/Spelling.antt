-- How steps are spelled.
use Rattle.std.specs.Prelude.{◌≡◌, ℕ, ◌+◌, List, ◌++◌, Some, slice_get, codes}
use Rattle.std.specs.Fmt.{decimal}
use Rattle.docket_rows.specs.declared.command.Command.{Command}
use Rattle.versioned_steps.specs.declared.step.Step.{Step}
use Rattle.versioned_steps.specs.declared.step.Step.TheVariants.{Begin, Read, Commit, Discard}

-- A step is spelled by its clerk and a letter. After the letter of a begin comes the number of the command, counted from 1.
abbrev pub IsSpelled : List Command → Step Command → List ℕ → Type 0
IsSpelled commands (Begin clerk command) word =
    (place : ℕ) × (slice_get commands place ≡ Some command) × (word ≡ decimal clerk ++ codes "b" ++ decimal (place + 1))
IsSpelled commands (Read clerk) word = word ≡ decimal clerk ++ codes "r"
IsSpelled commands (Commit clerk) word = word ≡ decimal clerk ++ codes "c"
IsSpelled commands (Discard clerk) word = word ≡ decimal clerk ++ codes "d"
