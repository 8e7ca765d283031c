-- The answers of each clerk, put into the order of the rows.
use Rattle.std.specs.Prelude.{◌≡◌, ℕ, ◌+◌, ◌<◌, List, [], ◌∷◌, ◌++◌, length, get_or, reverse}
use Rattle.row_forms.specs.declared.row.Row.{Row}
use Rattle.clerk_workers.specs.declared.answer.SharedReply.{SharedReply}
use Rattle.clerk_workers.specs.Rows.{works_of, answers_of}

-- the answers of the clerk, who has one of these lists, the first clerk the first one
abbrev pub list_at : (place : ℕ) → List (List SharedReply) → List SharedReply
list_at place lists = get_or lists place []

-- each clerk has as many answers as rows
abbrev pub AreAsMany : List Row → List (List SharedReply) → Type 0
AreAsMany rows lists = (place : ℕ) → place < length lists → length (list_at place lists) ≡ length (works_of (place + 1) rows)

-- the answers in their order are those of each clerk
abbrev pub AreMerged : List Row → List (List SharedReply) → List SharedReply → Type 0
AreMerged rows lists answers = (place : ℕ) → place < length lists → list_at place lists ≡ answers_of (place + 1) rows answers

-- the last answer of one list was taken
pub record IsTaken (old new : List (List SharedReply)) (place : ℕ) (answer : SharedReply) : Type 0 where
  pub as_long : length new ≡ length old
  pub here : list_at place old ≡ list_at place new ++ answer ∷ []
  pub elsewhere : (other : ℕ) → (other ≡ place → ⊥) → list_at other old ≡ list_at other new

-- the last ones of all rows have their answers, the last one first; the lists have those to the rows before them
pub record AreFromTheLast (all rest : List Row) (first now : List (List SharedReply)) (taken : List SharedReply) : Type 0 where
  pub later : List Row
  pub all_is : all ≡ rest ++ later
  pub as_long : length now ≡ length first
  pub as_many : AreAsMany rest now
  pub lists : (place : ℕ) → place < length first → list_at place first ≡ list_at place now ++ answers_of (place + 1) later (reverse taken)
  pub answered : length taken ≡ length later
