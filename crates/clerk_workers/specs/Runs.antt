-- What a run of several clerks comes to.
use Rattle.std.specs.Prelude.{◌≡◌, ℕ, ◌+◌, List, [], ◌∷◌, length, ⊤}
use Rattle.std.specs.declared.result.Result.{Result}
use Rattle.std.specs.declared.result.Result.TheVariants.{Ok, Err}
use Rattle.docket_rows.specs.Words.{CourtSetup}
use Rattle.clerk_seats.specs.Words.{SeatView, TallyView}
use Rattle.row_forms.specs.declared.row.Row.{Row}
use Rattle.clerk_workers.specs.declared.answer.SharedReply.{SharedReply}
use Rattle.clerk_workers.specs.declared.outcome.Ran.{Ran}
use Rattle.clerk_workers.specs.declared.outcome.RunFault.{RunFault}
use Rattle.clerk_workers.specs.declared.outcome.RunFault.TheVariants.{NotStarted, Stopped}
use Rattle.clerk_workers.specs.Rows.{works_of, answers_of}
use Rattle.clerk_workers.specs.Worked.{HasWorked, HasStopped}

-- the seats are numbered so, one after another
abbrev pub AreNumbered : (first : ℕ) → List SeatView → Type 0
AreNumbered first [] = ⊤
AreNumbered first (seat ∷ seats) = (seat.number ≡ first) × AreNumbered (first + 1) seats

abbrev pub AreInOrder : List SeatView → Type 0
AreInOrder seats = AreNumbered 1 seats

module _ (setup : CourtSetup) (rows : List Row) where
  -- each clerk did all its rows, and was given the answers to these; there is one tally for each seat, in order
  abbrev pub AllWorked : (answers : List SharedReply) → List SeatView → List TallyView → Type 0
  AllWorked answers [] [] = ⊤
  AllWorked answers [] (tally ∷ tallies) = ⊥
  AllWorked answers (seat ∷ seats) [] = ⊥
  AllWorked answers (seat ∷ seats) (tally ∷ tallies) =
      HasWorked setup seat (works_of seat.number rows) (answers_of seat.number rows answers) tally × AllWorked answers seats tallies

  -- all rows are answered
  pub record HasRun (seats : List SeatView) (answers : List SharedReply) (tallies : List TallyView) : Type 0 where
    pub as_many : length answers ≡ length rows
    pub worked : AllWorked answers seats tallies

  -- each clerk did its first rows; there is one tally for each seat, in order
  abbrev pub AllStopped : List SeatView → List TallyView → Type 0
  AllStopped [] [] = ⊤
  AllStopped [] (tally ∷ tallies) = ⊥
  AllStopped (seat ∷ seats) [] = ⊥
  AllStopped (seat ∷ seats) (tally ∷ tallies) = HasStopped setup seat (works_of seat.number rows) tally × AllStopped seats tallies

  -- what this result of a run on these seats says
  abbrev pub Runs : {L : Type 0} → (seats : List SeatView) → Result (Ran L) (RunFault L) → Type 0
  Runs seats (Ok ran) = HasRun seats ran.answers.items ran.tallies.items
  Runs seats (Err (NotStarted back)) = back.items ≡ seats
  Runs seats (Err (Stopped tallies)) = AllStopped seats tallies.items
