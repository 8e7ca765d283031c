-- An order of refusals is a list: each line has the test of when it applies and the refusal, and the answer is the
-- first that applies.
use Rattle.std.specs.Prelude.{Bool, List, [], ◌∷◌, Option, Some, None, if◌then◌else◌}
use Rattle.std.specs.Option.{option_or}

-- a line: the refusal exactly where the test applies
abbrev pub when : {R : Type 0} → Bool → R → Option R
when applies refusal = if applies then Some refusal else None

-- the first refusal that applies, if one does
abbrev pub first_of : {R : Type 0} → List (Option R) → Option R
first_of [] = None
first_of (line ∷ lines) = option_or line (first_of lines)
