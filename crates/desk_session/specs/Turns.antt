-- Many sessions on one file. Each opens it for a turn, keeps some lines after what the file stands for then, and lets others have it.
use Rattle.std.specs.Prelude.{◌≡◌, ◌≤◌, ℕ, List, [], ◌∷◌, ◌++◌, map, take}
use Rattle.desk_journal.specs.Words.{StandsFor}
use Rattle.desk_session.specs.Taken.{left_by, told_to}

-- A turn of a session: what a line leaves and what it is answered, by the entries before it; the lines that came; how many of them were
-- kept, and how many of these were answered before the session went on or was cut off.
pub record Turn : Type 0 where
  pub leaves : List (List ℕ) → List ℕ → List (List ℕ)
  pub answers : List (List ℕ) → List ℕ → List ℕ
  pub lines : List (List ℕ)
  pub kept : ℕ
  pub told : ℕ

-- what a turn leaves after these entries, and what it tells
abbrev pub left_in : Turn → (before : List (List ℕ)) → List (List ℕ)
left_in turn before = left_by turn.leaves before (take turn.kept turn.lines)

abbrev pub told_in : Turn → (before : List (List ℕ)) → List ℕ
told_in turn before = told_to turn.leaves turn.answers before (take turn.told turn.lines)

-- the entries after turns, one after another, whosever they are
unfoldable pub after_turns : List Turn → (before : List (List ℕ)) → List (List ℕ)
after_turns [] before = before
after_turns (turn ∷ turns) before = after_turns turns (before ++ left_in turn before)

-- A file that a turn leaves of one that it found: whatever entries the one stood for, the other stands for these and what the turn left
-- after them.
abbrev pub LeavesFile : (found : List ℕ) → Turn → (left : List ℕ) → Type 0
LeavesFile found turn left = (before : List (List ℕ)) → StandsFor found before → StandsFor left (before ++ left_in turn before)

-- turns, each with the file that it left, where each found the file that the one before it left
unfoldable pub AreTurns : (found : List ℕ) → List (Turn × List ℕ) → Type 0
AreTurns found [] = Unit {0}
AreTurns found ((turn, left) ∷ turns) = LeavesFile found turn left × AreTurns left turns

-- the file that the last of them left
unfoldable pub last_file : (found : List ℕ) → List (Turn × List ℕ) → List ℕ
last_file found [] = found
last_file found ((turn, left) ∷ turns) = last_file left turns

-- However the turns of sessions come one after another, the file stands for one history: the entries before, and then what each turn
-- left after those before it.
abbrev pub TurnsKeepOneHistory : Type 0
TurnsKeepOneHistory = (found : List ℕ) (first : List (List ℕ)) (turns : List (Turn × List ℕ)) → StandsFor found first → AreTurns found turns
    → StandsFor (last_file found turns) (after_turns (map (λ (turn : Turn × List ℕ). turn.0) turns) first)

-- A line of a turn that was kept, after those of its turn that come before it: it was decided on all entries before it, and no entry
-- that comes later is among them. What it left is in its place in the history, and nothing that comes later changes it.
pub record IsInPlace (history before : List (List ℕ)) (turn : Turn) (some : List (List ℕ)) (line : List ℕ) : Type 0 where
  pub more : List (List ℕ)
  pub place : history ≡ (before ++ left_by turn.leaves before some) ++ (turn.leaves (before ++ left_by turn.leaves before some) line ++ more)

-- Each line that was kept in a turn is in the history in its place, whatever turns came before and after.
abbrev pub EachLineIsInPlace : Type 0
EachLineIsInPlace = (first : List (List ℕ)) (earlier : List Turn) (turn : Turn) (later : List Turn) (some : List (List ℕ)) (line : List ℕ) (others : List (List ℕ))
    → take turn.kept turn.lines ≡ some ++ line ∷ others
    → IsInPlace (after_turns (earlier ++ turn ∷ later) first) (after_turns earlier first) turn some line

-- What a turn told are the answers of lines that it kept, each by the entries before it: so no answer is given that isn't in the history.
abbrev pub TurnsTellWhatTheyKept : Type 0
TurnsTellWhatTheyKept = (turn : Turn) (before : List (List ℕ)) → turn.told ≤ turn.kept → (others : List (List ℕ)) × (take turn.kept turn.lines ≡ take turn.told turn.lines ++ others)
