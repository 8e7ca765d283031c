-- What notes hold of the answers to the rows of several clerks.
use Rattle.std.specs.Prelude.{◌≡◌, List, [], ◌∷◌, ⊤}
use Rattle.std.specs.declared.result.Result.{Result}
use Rattle.std.specs.declared.result.Result.TheVariants.{Ok, Err}
use Rattle.docket_rows.specs.Words.{CourtSetup}
use Rattle.clerk_seats.specs.Words.{SeatView, TallyView}
use Rattle.row_forms.specs.declared.row.Row.{Row}
use Rattle.row_forms.specs.declared.row.Work.{Work}
use Rattle.clerk_workers.specs.declared.answer.SharedReply.{SharedReply}
use Rattle.clerk_workers.specs.declared.outcome.Noted.{Noted}
use Rattle.clerk_workers.specs.declared.outcome.RunFault.{RunFault}
use Rattle.clerk_workers.specs.declared.outcome.RunFault.TheVariants.{NotStarted, Stopped}
use Rattle.clerk_workers.specs.Inside.Merged.{AreAsMany, AreMerged}
use Rattle.clerk_workers.specs.Rows.{works_of}
use Rattle.clerk_workers.specs.Runs.{AllStopped, AllWorked}
use Rattle.clerk_workers.specs.Inside.Steps.{IsAfter}
use Rattle.clerk_workers.specs.Worked.{HasWorked}

module _ {K : Type 0} (hold : K → List SharedReply → Type 0) where
  -- the notes of each clerk hold the answers of one of these lists
  abbrev pub AllHold : List K → List (List SharedReply) → Type 0
  AllHold [] [] = ⊤
  AllHold [] (answers ∷ lists) = ⊥
  AllHold (n ∷ notes) [] = ⊥
  AllHold (n ∷ notes) (answers ∷ lists) = hold n answers × AllHold notes lists

  module _ (setup : CourtSetup) where
    -- the clerk was given some answers, and its notes hold them
    pub record HasNoted (seat : SeatView) (works : List Work) (notes : K) (tally : TallyView) : Type 0 where
      pub answers : List SharedReply
      pub held : hold notes answers
      pub worked : HasWorked setup seat works answers tally

    -- the clerk began at the first seat, has done its rows among these, and sits at the second seat; its notes hold the answers
    pub record IsNoted (start : SeatView) (rows : List Row) (notes : K) (seat : SeatView) : Type 0 where
      pub answers : List SharedReply
      pub held : hold notes answers
      pub after : IsAfter setup start rows answers seat

    module _ (rows : List Row) where
      -- each clerk did all its rows, and noted the answers; there are notes and a tally for each seat, in order
      abbrev pub AllNoted : List SeatView → List K → List TallyView → Type 0
      AllNoted [] [] [] = ⊤
      AllNoted [] [] (tally ∷ tallies) = ⊥
      AllNoted [] (n ∷ notes) tallies = ⊥
      AllNoted (seat ∷ seats) [] tallies = ⊥
      AllNoted (seat ∷ seats) (n ∷ notes) [] = ⊥
      AllNoted (seat ∷ seats) (n ∷ notes) (tally ∷ tallies) =
          HasNoted seat (works_of seat.number rows) n tally × AllNoted seats notes tallies

      -- so, with the answers of each clerk by name: once they are put into the order of the rows, each clerk was given those at its rows
      pub record AreNoted (seats : List SeatView) (notes : List K) (tallies : List TallyView) : Type 0 where
        pub lists : List (List SharedReply)
        pub held : AllHold notes lists
        pub as_many : AreAsMany rows lists
        pub worked : (answers : List SharedReply) → AreMerged rows lists answers → AllWorked setup rows answers seats tallies

      -- what this result of a run on these seats says
      abbrev pub RunsNoting : {L : Type 0} → (seats : List SeatView) → Result (Noted L K) (RunFault L) → Type 0
      RunsNoting seats (Ok noted) = AllNoted seats noted.notes.items noted.tallies.items
      RunsNoting seats (Err (NotStarted back)) = back.items ≡ seats
      RunsNoting seats (Err (Stopped tallies)) = AllStopped setup rows seats tallies.items
