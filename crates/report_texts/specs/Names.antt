-- The names of judges.
use Rattle.std.specs.Prelude.{ℕ, List, [], ◌∷◌, ◌++◌, codes}
use Rattle.std.specs.List.{flat_map}
use Rattle.court_days.specs.Words.{CourtView}
use Rattle.office_texts.specs.Words.{name_of}

-- the name of a judge after a `+`
abbrev pub joined_name : CourtView → (judge : ℕ) → List ℕ
joined_name court judge = codes "+" ++ name_of court.judges judge

-- the names of a panel's judges, in its order, joined by `+`
unfoldable pub panel_names : CourtView → (panel : List ℕ) → List ℕ
panel_names court [] = []
panel_names court (judge ∷ others) = name_of court.judges judge ++ flat_map (joined_name court) others
