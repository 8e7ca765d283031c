-- Rows that are tried: they are answered as if they were entered, and none is kept.
use Rattle.std.specs.Prelude.{ℕ, List, Option}
use Rattle.std.specs.Io.KnownBytes.{Appends}
use Rattle.program_streams.specs.Words.{AppendsFront}
use Rattle.desk_session.specs.Words.{told_to}
use Rattle.desk_register.specs.declared.standing.Standing.{Standing}
use Rattle.desk_warnings.specs.declared.register.HeldBack.{HeldBack}
use Rattle.desk_warnings.specs.Words.{careful_answers, careful_leaves}

-- Each line is answered after what the lines before it would leave: it is what `told` of `IsServed` says of lines that are kept.
abbrev pub IsTried : (under : Standing) → (held : HeldBack) → (kept lines : List (List ℕ)) → (before after : Option (List ℕ)) → Type 0
IsTried under held kept lines before after = Appends before after (told_to (careful_leaves under held) (careful_answers under held) kept lines)

-- what is written is a beginning of that
abbrev pub IsTriedInPart : (under : Standing) → (held : HeldBack) → (kept lines : List (List ℕ)) → (before after : Option (List ℕ)) → Type 0
IsTriedInPart under held kept lines before after = AppendsFront before after (told_to (careful_leaves under held) (careful_answers under held) kept lines)
