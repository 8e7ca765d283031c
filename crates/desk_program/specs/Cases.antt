-- What is written of the cases that have names.
use Rattle.std.specs.Prelude.{ℕ, List, ◌∷◌, [], ◌++◌, codes}
use Rattle.std.specs.Fmt.{decimal}
use Rattle.std.specs.List.{flat_map}
use Rattle.case_numbers.specs.declared.names.NamedCase.{NamedCase}

-- `1 1:25-cv-01234-ABC`
abbrev pub case_line : NamedCase → List ℕ
case_line c = decimal c.number ++ codes " " ++ c.name.shown ++ 10 ∷ []

abbrev pub cases_text : List NamedCase → List ℕ
cases_text named = flat_map case_line named
