-- Which texts of options are taken, and the fault of one that isn't.
use Rattle.std.specs.Prelude.{Bool, true, [], ◌∷◌, Option, Some, None, is_some, if◌then◌else◌}
use Rattle.clap.specs.Words.{Kinds, Text}
use Rattle.clap.specs.declared.error.kind.ErrorKind.TheVariants.{ValueValidation}
use Rattle.office_texts.specs.Names.Words.{case_called}
use Rattle.court_clock.specs.Words.{day_of_text}
use Rattle.program_main.specs.Texts.Days.{day_said, last_of_days}

-- the text of an option writes a day, or none is given
abbrev pub is_day_taken : (text : Option Text) → Bool
is_day_taken None = true
is_day_taken (Some text) = is_some (day_of_text text)

-- it says one, by its date or by a word, or none is given
abbrev pub is_said_taken : (text : Option Text) → Bool
is_said_taken None = true
is_said_taken (Some text) = is_some (day_said text)

-- it says how many days, one or more, or none is given
abbrev pub is_count_taken : (text : Option Text) → Bool
is_count_taken None = true
is_count_taken (Some text) = is_some (last_of_days text)

-- it calls a case, or none is given
abbrev pub is_case_taken : (text : Option Text) → Bool
is_case_taken None = true
is_case_taken (Some text) = is_some (case_called text)

-- the fault of a text that isn't taken
abbrev pub faults_unless : (taken : Bool) → Kinds
faults_unless taken = if taken then [] else ValueValidation ∷ []
