-- What the words of the command line ask for.
use Rattle.std.specs.Prelude.{ℤ, ◌&&◌, Bool, true, false, List, [], ◌∷◌, Option, None, Some, codes, IfSome, if◌then◌else◌}
use Rattle.std.specs.Str.{bytes_eq}
use Rattle.clap.specs.Kinds.{or_else}
use Rattle.clap.specs.Words.{App, Kinds, Row, Text, fault_of, subcommand_of, takes}
use Rattle.program_words.specs.declared.subcommand.Subcommand.{Subcommand}
use Rattle.program_words.specs.declared.task.Task.{Task}
use Rattle.program_words.specs.CommandLine.{command_line, court_line}
use Rattle.program_words.specs.Task.{IsTask, court_meant, faults_given, meant}

-- the subcommand of that name, after the word `court` or without it
abbrev pub subcommand_named : (of_court : Bool) → (name : Text) → Subcommand
subcommand_named of_court name = if of_court then court_meant name else meant name

-- the faults of what a subcommand was given, where there is one
abbrev pub faults_met : (of_court : Bool) → Option (Text × List Row) → Kinds
faults_met of_court None = []
faults_met of_court (Some met) = faults_given (subcommand_named of_court met.0) met.1

-- the subcommand asks for that
abbrev pub IsMet : (of_court : Bool) → (clock_time : ℤ) → Option (Text × List Row) → Task → Type 0
IsMet of_court clock_time met task = IfSome met (λ met. IsTask clock_time (subcommand_named of_court met.0) met.0 met.1 task)

-- there is no fault
abbrev pub are_none : Kinds → Bool
are_none [] = true
are_none (kind ∷ kinds) = false

-- the same of words by a command line: its faults come first, and then those of what the subcommand was given
abbrev pub faults_by : (line : App) → (of_court : Bool) → List Text → Kinds
faults_by line of_court words = or_else (fault_of line words) (faults_met of_court (subcommand_of line words))

abbrev pub takes_by : (line : App) → (of_court : Bool) → List Text → Bool
takes_by line of_court words = takes line words && are_none (faults_met of_court (subcommand_of line words))

abbrev pub IsAskedBy : (line : App) → (of_court : Bool) → (clock_time : ℤ) → List Text → Task → Type 0
IsAskedBy line of_court clock_time words task = IsMet of_court clock_time (subcommand_of line words) task

-- ---- what comes after the word `court` has a command line of its own

abbrev pub after_court : List Text → Option (List Text)
after_court [] = None
after_court (word ∷ words) = if bytes_eq word (codes "court") then Some words else None

-- the faults that words have, where these come after `court`
abbrev pub faults_after : Option (List Text) → (words : List Text) → Kinds
faults_after (Some rest) words = faults_by court_line true rest
faults_after None words = faults_by command_line false words

abbrev pub faults_of : List Text → Kinds
faults_of words = faults_after (after_court words) words

-- the program takes the words: the command line does, and what the subcommand was given has no fault
abbrev pub are_taken_after : Option (List Text) → (words : List Text) → Bool
are_taken_after (Some rest) words = takes_by court_line true rest
are_taken_after None words = takes_by command_line false words

abbrev pub are_taken : List Text → Bool
are_taken words = are_taken_after (after_court words) words

-- the words ask for that
abbrev pub IsAskedAfter : Option (List Text) → (clock_time : ℤ) → (words : List Text) → Task → Type 0
IsAskedAfter (Some rest) clock_time words task = IsAskedBy court_line true clock_time rest task
IsAskedAfter None clock_time words task = IsAskedBy command_line false clock_time words task

abbrev pub IsAskedTask : (clock_time : ℤ) → List Text → Task → Type 0
IsAskedTask clock_time words task = IsAskedAfter (after_court words) clock_time words task
