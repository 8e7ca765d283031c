-- What one row does to a seat.
use Rattle.std.specs.Prelude.{◌≡◌, List, ◌++◌}
use mathlib.Core.List.{IsPrefix}
use Rattle.std.specs.declared.result.Result.{Result}
use Rattle.std.specs.declared.result.Result.TheVariants.{Ok, Err}
use Rattle.docket_rows.specs.Words.{CourtSetup}
use Rattle.clerk_seats.specs.Words.{SeatView, Goes}
use Rattle.row_forms.specs.declared.row.Row.{Row}
use Rattle.row_forms.specs.declared.row.Work.{Work}
use Rattle.clerk_workers.specs.declared.answer.SharedReply.{SharedReply}
use Rattle.clerk_workers.specs.Answered.{Says, place_told}
use Rattle.clerk_workers.specs.Rows.{works_of}
use Rattle.clerk_workers.specs.Worked.{HasWorked, tally_of}

-- the seat finished no call; it may have seen more
pub record FinishesNothing (old new : SeatView) : Type 0 where
  pub goes : Goes old new
  pub mine : new.mine ≡ old.mine

module _ (setup : CourtSetup) where
  -- the row was answered so, at the moment up to which the seat has now seen the history
  pub record IsDone (old : SeatView) (w : Work) (answer : SharedReply) (new : SeatView) : Type 0 where
    pub goes : Goes old new
    pub mine : new.mine ≡ old.mine ++ place_told answer
    pub says : Says setup old.limit old.number old.seen w answer new.seen

  -- what this result of answering a row says
  abbrev pub Answers : {E : Type 0} → (old : SeatView) → Work → Result SharedReply E → (new : SeatView) → Type 0
  Answers old w (Ok answer) new = IsDone old w answer new
  Answers old w (Err e) new = FinishesNothing old new

  -- the clerk began at the first seat, did its rows among these, was given these answers, and is at the second seat
  pub record IsAfter (start : SeatView) (rows : List Row) (answers : List SharedReply) (seat : SeatView) : Type 0 where
    pub limit : seat.limit ≡ start.limit
    pub worked : HasWorked setup start (works_of start.number rows) answers (tally_of seat)

  -- so with some of the rows, from the first on
  pub record HasLeft (start : SeatView) (rows : List Row) (seat : SeatView) : Type 0 where
    pub done : List Row
    pub answers : List SharedReply
    pub beginning : IsPrefix done rows
    pub after : IsAfter start done answers seat
