-- What lines leave and are answered, where nothing is held back, and where rows that draw a warning are.
use Rattle.std.specs.Prelude.{ℕ, Bool, true, false, List, [], ◌++◌, codes, Option, Some, None}
use Rattle.std.specs.Fmt.{decimal}
use Rattle.desk_session.specs.Words.{after_mark, left_by, told_to, unmarked}
use Rattle.desk_session.specs.declared.outcome.Outcome.{Outcome}
use Rattle.desk_session.specs.declared.outcome.Outcome.TheVariants.{Fault, Held}
use Rattle.desk_register.specs.declared.standing.Standing.{Standing}
use Rattle.desk_register.specs.Words.{leaves, next_number, told}
use Rattle.desk_warnings.specs.declared.register.HeldBack.{HeldBack}
use Rattle.desk_warnings.specs.declared.register.HeldBack.TheVariants.{Nothing, Warned}
use Rattle.desk_warnings.specs.Rows.{against_rows, came_of_rows, line_rows, taken_if}

-- whether lines may be marked, so that they are taken without warnings
abbrev pub are_marked : HeldBack → Bool
are_marked Nothing = false
are_marked (Warned today) = true

-- what is held back of a line: nothing of one that begins with a mark, which covers all its rows
abbrev pub held_unless : HeldBack → (rest : Option (List ℕ)) → HeldBack
held_unless held None = held
held_unless held (Some rest) = Nothing

abbrev pub held_for : HeldBack → (line : List ℕ) → HeldBack
held_for Nothing line = Nothing
held_for (Warned today) line = held_unless (Warned today) (after_mark line)

-- a line without its mark, where lines may have one
abbrev pub line_for : HeldBack → (line : List ℕ) → List ℕ
line_for held line = unmarked (are_marked held) line

-- what is answered where something speaks against a line, and the next row has this number
unfoldable pub held_first : (number : ℕ) → List ℕ
held_first number = codes "row " ++ decimal number ++ codes " not kept:\n"

unfoldable pub held_mark : List ℕ
held_mark = codes "enter the row with '!' before it to keep it all the same\n"

unfoldable pub held_whole : List ℕ
held_whole = codes "the rows of a line are kept together, so none of them is kept\n"

abbrev pub held_last : HeldBack → List ℕ
held_last Nothing = held_whole
held_last (Warned today) = held_mark

abbrev pub held_text : HeldBack → (number : ℕ) → (against : List ℕ) → List ℕ
held_text held number against = held_first number ++ against ++ held_last held

-- a line without its mark, by the rows that are taken of it: what they leave, each after what those before it leave
abbrev pub left_of_taken : Standing → (kept : List (List ℕ)) → Option (List (List ℕ)) → List (List ℕ)
left_of_taken under kept None = []
left_of_taken under kept (Some rows) = left_by (leaves under) kept rows

-- what is told of it: their answers, one after another, or what speaks against it
abbrev pub told_of_taken : Standing → HeldBack → (kept : List (List ℕ)) → (against : List ℕ) → Option (List (List ℕ)) → List ℕ
told_of_taken under held kept against None = held_text held (next_number kept) against
told_of_taken under held kept against (Some rows) = told_to (leaves under) (told under) kept rows

-- what comes of it: what comes of them, or it is held back; or it has a fault, where a warning would not hold it back
abbrev pub held_came : HeldBack → Outcome
held_came Nothing = Fault
held_came (Warned today) = Held

abbrev pub came_of_taken : Standing → HeldBack → (kept : List (List ℕ)) → Option (List (List ℕ)) → Outcome
came_of_taken under held kept None = held_came held
came_of_taken under held kept (Some rows) = came_of_rows under kept rows

abbrev pub whole_taken : Standing → HeldBack → (kept : List (List ℕ)) → (line : List ℕ) → Option (List (List ℕ))
whole_taken under held kept line = taken_if (line_rows line) (against_rows under held kept (line_rows line))

abbrev pub whole_leaves : Standing → HeldBack → (kept : List (List ℕ)) → (line : List ℕ) → List (List ℕ)
whole_leaves under held kept line = left_of_taken under kept (whole_taken under held kept line)

abbrev pub whole_answers : Standing → HeldBack → (kept : List (List ℕ)) → (line : List ℕ) → List ℕ
whole_answers under held kept line = told_of_taken under held kept (against_rows under held kept (line_rows line)) (whole_taken under held kept line)

abbrev pub whole_outcome : Standing → HeldBack → (kept : List (List ℕ)) → (line : List ℕ) → Outcome
whole_outcome under held kept line = came_of_taken under held kept (whole_taken under held kept line)

-- the rows of a line that are taken, what the line leaves, what is told of it and what comes of it, by what is held back
abbrev pub taken_at : Standing → HeldBack → (kept : List (List ℕ)) → (line : List ℕ) → Option (List (List ℕ))
taken_at under held kept line = whole_taken under (held_for held line) kept (line_for held line)

abbrev pub careful_leaves : Standing → HeldBack → (kept : List (List ℕ)) → (line : List ℕ) → List (List ℕ)
careful_leaves under held kept line = whole_leaves under (held_for held line) kept (line_for held line)

abbrev pub careful_answers : Standing → HeldBack → (kept : List (List ℕ)) → (line : List ℕ) → List ℕ
careful_answers under held kept line = whole_answers under (held_for held line) kept (line_for held line)

abbrev pub careful_outcome : Standing → HeldBack → (kept : List (List ℕ)) → (line : List ℕ) → Outcome
careful_outcome under held kept line = whole_outcome under (held_for held line) kept (line_for held line)
