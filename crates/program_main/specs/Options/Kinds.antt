-- Which answer goes with which kinds of fault.
use Rattle.std.specs.Prelude.{◌≡◌, ◌≢◌, ◌⊎◌, [], Result, MatchResult}
use Rattle.clap.specs.Kinds.{IsAmong, Kinds}
use Rattle.clap.specs.declared.error.kind.ErrorKind.{ErrorKind}
use Rattle.clap.specs.declared.error.kind.ErrorKind.TheVariants as kind
use Rattle.program_main.specs.declared.options.fault.OptionsFault.{OptionsFault}
use Rattle.program_main.specs.declared.options.fault.OptionsFault.TheVariants.{BadWords, Help, OutOfMemory}

-- a fault of the words, and no request and no want of memory
abbrev pub IsMistake : ErrorKind → Type 0
IsMistake k = (k ≢ kind.DisplayHelp) × (k ≢ kind.DisplayVersion) × (k ≢ kind.OutOfMemory)

-- the fault that an error of this kind becomes; memory may run out at any time
abbrev pub IsFaultOf : ErrorKind → OptionsFault → Type 0
IsFaultOf k (BadWords text) = IsMistake k
IsFaultOf k (Help text) = (k ≡ kind.DisplayHelp) ⊎ (k ≡ kind.DisplayVersion)
IsFaultOf k OutOfMemory = Unit {0}

-- the fault is one of those that words with these kinds of fault have
abbrev pub IsFaultAmong : Kinds → OptionsFault → Type 0
IsFaultAmong kinds (BadWords text) = (k : ErrorKind) × IsAmong k kinds × IsMistake k
IsFaultAmong kinds (Help text) = IsAmong kind.DisplayHelp kinds ⊎ IsAmong kind.DisplayVersion kinds
IsFaultAmong kinds OutOfMemory = Unit {0}

-- the answer for words with these kinds of fault: options only where there is none
abbrev pub IsAnswerFor : {T : Type 0} → Kinds → Result T OptionsFault → Type 0
IsAnswerFor kinds result = MatchResult result (λ _. kinds ≡ []) (IsFaultAmong kinds)

-- the words name something that the program doesn't have, or a value that it doesn't take
abbrev pub HasMistake : Kinds → Type 0
HasMistake kinds = (k : ErrorKind) × IsAmong k kinds × IsMistake k

-- the words ask for the help or for the version
abbrev pub AsksForHelp : Kinds → Type 0
AsksForHelp kinds = IsAmong kind.DisplayHelp kinds ⊎ IsAmong kind.DisplayVersion kinds

-- the words have faults, and ask for no help
pub record IsRefused (kinds : Kinds) : Type 0 where
  pub faulty : kinds ≢ []
  pub no_help : AsksForHelp kinds → ⊥
