-- The words of a command line and the program's name.
use Rattle.std.specs.Prelude.{List, drop}
use Rattle.clap.specs.Words.{Text}

-- the words after the program's name
abbrev pub arguments_in : List Text → List Text
arguments_in all = drop 1 all
