-- The rows of one clerk among those of all.
use Rattle.std.specs.Prelude.{ℕ, ◌==◌, if◌then◌else◌, List, [], ◌∷◌, All}
use Rattle.row_forms.specs.declared.row.Row.{Row}
use Rattle.row_forms.specs.declared.row.Work.{Work}
use Rattle.row_forms.specs.Words.{IsOfClerk}
use Rattle.clerk_workers.specs.declared.answer.SharedReply.{SharedReply}

-- what the clerk asks for, row after row
abbrev pub works_of : (clerk : ℕ) → List Row → List Work
works_of clerk [] = []
works_of clerk (row ∷ rows) = if row.clerk == clerk then row.work ∷ works_of clerk rows else works_of clerk rows

-- the answers to the clerk's rows, where these are the answers to all rows
abbrev pub answers_of : (clerk : ℕ) → List Row → List SharedReply → List SharedReply
answers_of clerk [] answers = []
answers_of clerk (row ∷ rows) [] = []
answers_of clerk (row ∷ rows) (answer ∷ answers) =
    if row.clerk == clerk then answer ∷ answers_of clerk rows answers else answers_of clerk rows answers

-- the rows are of these clerks
abbrev pub AreOfClerks : (clerks : ℕ) → List Row → Type 0
AreOfClerks clerks rows = All (IsOfClerk clerks) rows
