-- The subcommand that a parse met.
use Rattle.std.proofs.Common.{◌≡◌, List, Option, Some, None, option_map}
use Rattle.clap.specs.Words.{Row, Text}

-- its name and its rows, where they are those
pub met_pair : {X : Type 0} (it : Option X) (name_of : X → Text) (rows_in : X → List Row) (name : Text) (rows : List Row) → Some name ≡ option_map name_of it
    → Some rows ≡ option_map (λ (pair : Text × List Row). pair.1) (option_map {U = Text × List Row} (λ x. (name_of x, rows_in x)) it) → option_map {U = Text × List Row} (λ x. (name_of x, rows_in x)) it ≡ Some (name, rows)
met_pair (Some x) name_of rows_in name rows named rowed = cc
met_pair None name_of rows_in name rows named rowed = cc
