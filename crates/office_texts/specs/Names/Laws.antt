-- What these definitions come to.
use Rattle.std.specs.Prelude.{◌≡◌, ℕ, []}
use Rattle.std.specs.Fmt.{decimal}
use Rattle.case_numbers.specs.Words.{case_text}

-- Where no case has a name, each is called by its number.
abbrev pub WithoutNamesAsNumbers : Type 0
WithoutNamesAsNumbers = (number : ℕ) → case_text [] number ≡ decimal number
