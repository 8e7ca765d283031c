-- What a clerk's work does to a seat.
use Rattle.std.specs.Prelude.{◌≡◌, List, ◌++◌}
use mathlib.Core.List.{IsPrefix}
use Rattle.docket_rows.specs.Words.{CourtSetup}
use Rattle.clerk_seats.specs.Words.{SeatView, TallyView}
use Rattle.row_forms.specs.declared.row.Work.{Work}
use Rattle.clerk_workers.specs.declared.answer.SharedReply.{SharedReply}
use Rattle.clerk_workers.specs.Answered.{AreAnswered, places_told}

-- what the seat would leave now
abbrev pub tally_of : SeatView → TallyView
tally_of seat = record { number = seat.number; seen = seat.seen; mine = seat.mine }

module _ (setup : CourtSetup) where
  -- the clerk began at this seat, asked for these, and was given these answers, the first at a moment no earlier than what the seat had
  -- seen; the tally is what is left of the seat
  pub record HasWorked (seat : SeatView) (works : List Work) (answers : List SharedReply) (tally : TallyView) : Type 0 where
    pub number : tally.number ≡ seat.number
    pub seen : IsPrefix seat.seen tally.seen
    pub mine : tally.mine ≡ seat.mine ++ places_told answers
    pub answered : AreAnswered setup seat.limit seat.number tally.seen seat.seen works answers

  -- so for some of the works, from the first on
  pub record HasStopped (seat : SeatView) (works : List Work) (tally : TallyView) : Type 0 where
    pub done : List Work
    pub answers : List SharedReply
    pub beginning : IsPrefix done works
    pub worked : HasWorked seat done answers tally
