-- What comes of a run, from what its workers say.
use Rattle.std.proofs.Common.{◌≡◌, List, [], ◌∷◌, ◌++◌, length, map, reverse, All, refl, ap, sym, ◌∙◌, subst, arith}
use Rattle.std.proofs.lemmas.List.{map-append}
use Rattle.std.proofs.lemmas.List.Elements.{All-nil, All-head, All-tail}
use mathlib.Core.List.{reverse-cons}
use Rattle.docket_rows.specs.Words.{CourtSetup}
use Rattle.published_docket.proofs.CallerLemmas.{prefix_self}
use Rattle.clerk_seats.specs.Words.{SeatView, TallyView}
use Rattle.row_forms.specs.declared.row.Row.{Row}
use Rattle.clerk_workers.specs.declared.answer.SharedReply.{SharedReply}
use Rattle.clerk_workers.specs.declared.progress.Progress.{Progress}
use Rattle.clerk_workers.specs.declared.progress.Progress.TheVariants.{Waiting, Done, Stopped}
use Rattle.clerk_workers.specs.Workers.{AreWorked, WorkerView, IsIn, IsWorked, notes_at, seats_at, tallies_at}
use Rattle.clerk_workers.specs.Noted.{AllNoted, HasNoted}
use Rattle.clerk_workers.specs.Rows.{works_of}
use Rattle.clerk_workers.specs.Runs.{AllStopped}
use Rattle.clerk_workers.specs.Worked.{HasStopped, HasWorked, tally_of}
use Rattle.clerk_workers.proofs.WorkerLemmas.{all_push, worked_push}
use Rattle.clerk_workers.proofs.WorkLemmas.{after_none}

map_turned : {X Y : Type 0} (f : X → Y) (xs : List X) → map f (reverse xs) ≡ reverse (map f xs)
map_turned f [] = refl
map_turned f (x ∷ xs) =
    ap (map f) (reverse-cons x xs) ∙ (map-append f (reverse xs) (x ∷ []) ∙ (ap (λ ys. ys ++ f x ∷ []) (map_turned f xs) ∙ sym (reverse-cons (f x) (map f xs))))

all_turned : {X : Type 0} (P : X → Type 0) (xs : List X) → All P xs → All P (reverse xs)
all_turned P [] all = All-nil P
all_turned P (x ∷ xs) all =
    subst (All P) (sym (reverse-cons x xs)) (all_push P (reverse xs) x (all_turned P xs (All-tail P x xs all)) (All-head P x xs all))

module _ {K : Type 0} (hold : K → List SharedReply → Type 0) (setup : CourtSetup) (rows : List Row) where
  pub worked_long : (old new : List (WorkerView K)) → AreWorked hold setup rows old new → length new ≡ length old
  worked_long [] [] are = refl
  worked_long [] (n ∷ new) are = absurd are
  worked_long (o ∷ old) [] are = absurd are
  worked_long (o ∷ old) (n ∷ new) are = omega (arith, worked_long old new are.1)

  worked_turned : (old new : List (WorkerView K)) → AreWorked hold setup rows old new → AreWorked hold setup rows (reverse old) (reverse new)
  worked_turned [] [] are = tt
  worked_turned [] (n ∷ new) are = absurd are
  worked_turned (o ∷ old) [] are = absurd are
  worked_turned (o ∷ old) (n ∷ new) are =
      let P : List (WorkerView K) → Type 0 = λ ds. AreWorked hold setup rows ds (reverse (n ∷ new)) in
      let Q : List (WorkerView K) → Type 0 = λ ds. AreWorked hold setup rows (reverse old ++ o ∷ []) ds in
      subst P (sym (reverse-cons o old)) (subst Q (sym (reverse-cons n new)) (worked_push hold setup rows (reverse old) (reverse new) o n (worked_turned old new are.1) are.0))

  -- clerks who haven't begun have their seats as they were
  waiting_seats : (old new : List (WorkerView K)) → AreWorked hold setup rows old new → All (λ (w : WorkerView K). w.progress ≡ Waiting) new → map (λ (w : WorkerView K). w.seat) new ≡ map (λ (w : WorkerView K). w.seat) old
  waiting_seats [] [] are all = refl
  waiting_seats [] (n ∷ new) are all = absurd are
  waiting_seats (o ∷ old) [] are all = absurd are
  waiting_seats (o ∷ old) (n ∷ new) are all =
      let P : Progress → Type 0 = λ s. IsIn hold setup rows s o.seat n.seat n.notes in
      let waits : n.progress ≡ Waiting = All-head (λ (w : WorkerView K). w.progress ≡ Waiting) n new all in
      let same : n.seat ≡ o.seat = subst P waits are.0 in
      let rest = waiting_seats old new are.1 (All-tail (λ (w : WorkerView K). w.progress ≡ Waiting) n new all) in
      ap (λ (s : SeatView). s ∷ map (λ (w : WorkerView K). w.seat) new) same ∙ ap (λ (ss : List SeatView). o.seat ∷ ss) rest

  pub run_waiting : (old new : List (WorkerView K)) → AreWorked hold setup rows old new → All (λ (w : WorkerView K). w.progress ≡ Waiting) new → seats_at new ≡ seats_at old
  run_waiting old new are all = ap reverse (waiting_seats old new are all)

  -- each clerk did its first rows
  is_stopped : (progress : Progress) (start seat : SeatView) (notes : K) → IsIn hold setup rows progress start seat notes → HasStopped setup start (works_of start.number rows) (tally_of seat)
  is_stopped Waiting start seat notes is =
      let P : SeatView → Type 0 = λ s. HasWorked setup start [] [] (tally_of s) in
      record { done = []; answers = []; beginning = (works_of start.number rows, refl); worked = subst P (sym is) (after_none setup start).worked }
  is_stopped Done start seat notes is =
      record { done = works_of start.number rows; answers = is.answers; beginning = prefix_self (works_of start.number rows); worked = is.worked }
  is_stopped Stopped start seat notes is = is

  all_stopped : (old new : List (WorkerView K)) → AreWorked hold setup rows old new → AllStopped setup rows (map (λ (w : WorkerView K). w.seat) old) (map (λ (w : WorkerView K). tally_of w.seat) new)
  all_stopped [] [] are = tt
  all_stopped [] (n ∷ new) are = absurd are
  all_stopped (o ∷ old) [] are = absurd are
  all_stopped (o ∷ old) (n ∷ new) are = (is_stopped n.progress o.seat n.seat n.notes are.0, all_stopped old new are.1)

  pub run_stopped : (old new : List (WorkerView K)) → AreWorked hold setup rows old new → AllStopped setup rows (seats_at old) (tallies_at new)
  run_stopped old new are =
      let P : List SeatView → Type 0 = λ ss. AllStopped setup rows ss (map (λ (w : WorkerView K). tally_of w.seat) (reverse new)) in
      let Q : List TallyView → Type 0 = λ ts. AllStopped setup rows (seats_at old) ts in
      subst Q (map_turned (λ (w : WorkerView K). tally_of w.seat) new) (subst P (map_turned (λ (w : WorkerView K). w.seat) old) (all_stopped (reverse old) (reverse new) (worked_turned old new are)))

  -- a clerk who is done
  is_done : (o n : WorkerView K) → n.progress ≡ Done → IsWorked hold setup rows o n → HasNoted hold setup o.seat (works_of o.seat.number rows) n.notes (tally_of n.seat)
  is_done o n done is = let P : Progress → Type 0 = λ s. IsIn hold setup rows s o.seat n.seat n.notes in subst P done is

  all_done : (old new : List (WorkerView K)) → AreWorked hold setup rows old new → All (λ (w : WorkerView K). w.progress ≡ Done) new → AllNoted hold setup rows (map (λ (w : WorkerView K). w.seat) old) (map (λ (w : WorkerView K). w.notes) new) (map (λ (w : WorkerView K). tally_of w.seat) new)
  all_done [] [] are all = tt
  all_done [] (n ∷ new) are all = absurd are
  all_done (o ∷ old) [] are all = absurd are
  all_done (o ∷ old) (n ∷ new) are all = (
    is_done o n (All-head (λ (w : WorkerView K). w.progress ≡ Done) n new all) are.0,
    all_done old new are.1 (All-tail (λ (w : WorkerView K). w.progress ≡ Done) n new all),
  )

  -- all clerks are done
  pub run_noted : (old new : List (WorkerView K)) → AreWorked hold setup rows old new → All (λ (w : WorkerView K). w.progress ≡ Done) new → AllNoted hold setup rows (seats_at old) (notes_at new) (tallies_at new)
  run_noted old new are all =
      let done = all_done (reverse old) (reverse new) (worked_turned old new are) (all_turned (λ (w : WorkerView K). w.progress ≡ Done) new all) in
      let P : List SeatView → Type 0 = λ ss. AllNoted hold setup rows ss (map (λ (w : WorkerView K). w.notes) (reverse new)) (map (λ (w : WorkerView K). tally_of w.seat) (reverse new)) in
      let Q : List K → Type 0 = λ ns. AllNoted hold setup rows (seats_at old) ns (map (λ (w : WorkerView K). tally_of w.seat) (reverse new)) in
      let R : List TallyView → Type 0 = λ ts. AllNoted hold setup rows (seats_at old) (notes_at new) ts in
      subst R (map_turned (λ (w : WorkerView K). tally_of w.seat) new) (subst Q (map_turned (λ (w : WorkerView K). w.notes) new) (subst P (map_turned (λ (w : WorkerView K). w.seat) old) done))
