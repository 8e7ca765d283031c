-- Workers: clerks at work on their rows.
use Rattle.std.specs.Prelude.{◌≡◌, List, [], ◌∷◌, ◌++◌, map, reverse, All, ⊤}
use Rattle.docket_rows.specs.Words.{CourtSetup}
use Rattle.clerk_seats.specs.Words.{SeatView, TallyView}
use Rattle.row_forms.specs.declared.row.Row.{Row}
use Rattle.clerk_workers.specs.declared.answer.SharedReply.{SharedReply}
use Rattle.clerk_workers.specs.declared.progress.Progress.{Progress}
use Rattle.clerk_workers.specs.declared.progress.Progress.TheVariants.{Waiting, Done, Stopped}
use Rattle.clerk_workers.specs.Noted.{HasNoted}
use Rattle.clerk_workers.specs.Rows.{works_of}
use Rattle.clerk_workers.specs.Worked.{HasStopped, tally_of}

-- what contracts see of a worker: the clerk's seat, what the clerk noted of the answers to its rows, and how far it is
pub record WorkerView (K : Type 0) : Type 0 where
  pub seat : SeatView
  pub notes : K
  pub progress : Progress

-- what contracts see of a worker's thread: the worker as it began, and the rows of all clerks
pub record HiredView (K : Type 0) : Type 0 where
  pub worker : WorkerView K
  pub rows : List Row

module _ {K : Type 0} where
  -- the seats of these workers, what they would leave, and their notes, the last worker first
  abbrev pub seats_at : List (WorkerView K) → List SeatView
  seats_at workers = reverse (map (λ (w : WorkerView K). w.seat) workers)

  abbrev pub tallies_at : List (WorkerView K) → List TallyView
  tallies_at workers = reverse (map (λ (w : WorkerView K). tally_of w.seat) workers)

  abbrev pub notes_at : List (WorkerView K) → List K
  notes_at workers = reverse (map (λ (w : WorkerView K). w.notes) workers)

  -- the workers as they began, the one hired last first
  abbrev pub begun_at : List (HiredView K) → List (WorkerView K)
  begun_at hired = reverse (map (λ (h : HiredView K). h.worker) hired)

module _ {K : Type 0} (hold : K → List SharedReply → Type 0) where
  -- the clerk hasn't begun, and its notes hold nothing
  pub record IsReady (worker : WorkerView K) : Type 0 where
    pub empty : hold worker.notes []
    pub waiting : worker.progress ≡ Waiting

  module _ (setup : CourtSetup) (rows : List Row) where
    -- what the progress of a worker says of it, where it began with this seat
    abbrev pub IsIn : Progress → (start seat : SeatView) → K → Type 0
    IsIn Waiting start seat notes = seat ≡ start
    IsIn Done start seat notes = HasNoted hold setup start (works_of start.number rows) notes (tally_of seat)
    IsIn Stopped start seat notes = HasStopped setup start (works_of start.number rows) (tally_of seat)

    -- a worker that began as the first one is now the second, and has come as far as that says
    abbrev pub IsWorked : (old new : WorkerView K) → Type 0
    IsWorked old new = IsIn new.progress old.seat new.seat new.notes

    -- so for each of several workers
    abbrev pub AreWorked : (old new : List (WorkerView K)) → Type 0
    AreWorked [] [] = ⊤
    AreWorked [] (n ∷ new) = ⊥
    AreWorked (o ∷ old) [] = ⊥
    AreWorked (o ∷ old) (n ∷ new) = IsWorked o n × AreWorked old new

    -- the last ones of these workers are hired, to do these rows; the others are as far as they now say
    pub record AreUnderWay (old new : List (WorkerView K)) (hired : List (HiredView K)) : Type 0 where
      pub others : List (WorkerView K)
      pub worked : AreWorked others new
      pub all : old ≡ others ++ begun_at hired
      pub same_rows : All (λ (h : HiredView K). h.rows ≡ rows) hired
