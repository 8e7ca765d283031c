-- An entry that is no row.
use Rattle.std.specs.Prelude.{◌≡◌, ℕ, List}
use Rattle.desk_entries.specs.declared.docketed.Docketed.{Docketed}
use Rattle.desk_register.specs.declared.standing.Standing.{Standing}
use Rattle.desk_entries.specs.Words.{IsDocketed, StandsAt}

-- where this stands after entries, a docket of their rows is what they come to
abbrev pub ComesTo : Standing → (entries : List (List ℕ)) → Type 0
ComesTo standing entries = (after : Docketed) → after.standing ≡ standing → StandsAt standing after.register entries → IsDocketed after entries
