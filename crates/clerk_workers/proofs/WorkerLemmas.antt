-- Workers in a row, as they begin and end.
use Rattle.std.proofs.Common.{◌≡◌, List, [], ◌∷◌, ◌++◌, length, map, reverse, All, refl, ap, sym, ◌∙◌, append_assoc, append-nil, subst, arith}
use Rattle.std.proofs.lemmas.List.{map-append, reverse-append}
use Rattle.std.proofs.lemmas.List.Elements.{All-nil, All-cons, All-head, All-tail}
use Rattle.docket_rows.specs.Words.{CourtSetup}
use Rattle.row_forms.specs.declared.row.Row.{Row}
use Rattle.clerk_workers.specs.declared.answer.SharedReply.{SharedReply}
use Rattle.clerk_workers.specs.declared.progress.Progress.{Progress}
use Rattle.clerk_workers.specs.Workers.{AreUnderWay, AreWorked, WorkerView, HiredView, IsIn, IsReady, IsWorked, begun_at}

-- what is taken from a list one after another, the last first, and put after others
pub turned_more : {X Y : Type 0} (f : X → Y) (others : List Y) (xs : List X) (x : X) → others ++ reverse (map f (xs ++ x ∷ [])) ≡ (others ++ f x ∷ []) ++ reverse (map f xs)
turned_more f others xs x =
    ap (λ ys. others ++ ys) (ap reverse (map-append f xs (x ∷ [])) ∙ reverse-append (map f xs) (f x ∷ [])) ∙ sym (append_assoc others (f x ∷ []) (reverse (map f xs)))

-- workers, and after them those who are hired, one more of whom is hired
pub begun_more : {K : Type 0} (others : List (WorkerView K)) (hired : List (HiredView K)) (clerk : HiredView K) → others ++ begun_at (hired ++ clerk ∷ []) ≡ (others ++ clerk.worker ∷ []) ++ begun_at hired
begun_more {K} others hired clerk = turned_more (λ (h : HiredView K). h.worker) others hired clerk

module _ {K : Type 0} (hold : K → List SharedReply → Type 0) (setup : CourtSetup) (rows : List Row) where
  -- one more worker
  pub worked_push : (old new : List (WorkerView K)) (o n : WorkerView K) → AreWorked hold setup rows old new → IsWorked hold setup rows o n → AreWorked hold setup rows (old ++ o ∷ []) (new ++ n ∷ [])
  worked_push [] [] o n are is = (is, tt)
  worked_push [] (d ∷ new) o n are is = absurd are
  worked_push (d ∷ old) [] o n are is = absurd are
  worked_push (d ∷ old) (e ∷ new) o n are is = (are.0, worked_push old new o n are.1 is)

  -- workers who haven't begun
  pub worked_ready : (workers : List (WorkerView K)) → All (IsReady hold) workers → AreWorked hold setup rows workers workers
  worked_ready [] ready = tt
  worked_ready (d ∷ workers) ready =
      let first : IsReady hold d = All-head (IsReady hold) d workers ready in
      let P : Progress → Type 0 = λ s. IsIn hold setup rows s d.seat d.seat d.notes in
      (subst P (sym first.waiting) refl, worked_ready workers (All-tail (IsReady hold) d workers ready))

-- what holds of all holds of one more, and of all but the last, and of the last
pub all_push : {X : Type 0} (P : X → Type 0) (xs : List X) (x : X) → All P xs → P x → All P (xs ++ x ∷ [])
all_push P [] x all one = All-cons P x [] one (All-nil P)
all_push P (y ∷ xs) x all one = All-cons P y (xs ++ x ∷ []) (All-head P y xs all) (all_push P xs x (All-tail P y xs all) one)

pub all_but_last : {X : Type 0} (P : X → Type 0) (xs : List X) (x : X) → All P (xs ++ x ∷ []) → All P xs × P x
all_but_last P [] x all = (All-nil P, All-head P x [] all)
all_but_last P (y ∷ xs) x all =
    let rest = all_but_last P xs x (All-tail P y (xs ++ x ∷ []) all) in
    (All-cons P y xs (All-head P y (xs ++ x ∷ []) all) rest.0, rest.1)

pub all_first : {X : Type 0} (P : X → Type 0) (xs ys : List X) → All P (xs ++ ys) → All P xs
all_first P [] ys all = All-nil P
all_first P (x ∷ xs) ys all = All-cons P x xs (All-head P x (xs ++ ys) all) (all_first P xs ys (All-tail P x (xs ++ ys) all))

pub others_ready : {K : Type 0} (hold : K → List SharedReply → Type 0) (all others : List (WorkerView K)) (worker : WorkerView K) → all ≡ others ++ worker ∷ [] → All (IsReady hold) all → All (IsReady hold) others
others_ready hold all others worker same ready = (all_but_last (IsReady hold) others worker (subst (All (IsReady hold)) same ready)).0

module _ {K : Type 0} (hold : K → List SharedReply → Type 0) (setup : CourtSetup) (rows : List Row) (old : List (WorkerView K)) where
  -- the clerk who was hired last is done
  pub way_joined : (now next : List (WorkerView K)) (hired left : List (HiredView K)) (clerk : HiredView K) (worker : WorkerView K) → hired ≡ left ++ clerk ∷ [] → next ≡ now ++ worker ∷ [] → IsWorked hold setup clerk.rows clerk.worker worker → AreUnderWay hold setup rows old now hired → AreUnderWay hold setup rows old next left
  way_joined now next hired left clerk worker popped pushed is way =
      let each = all_but_last (λ (h : HiredView K). h.rows ≡ rows) left clerk (subst (All (λ (h : HiredView K). h.rows ≡ rows)) popped way.same_rows) in
      let P : List Row → Type 0 = λ rs. IsWorked hold setup rs clerk.worker worker in
      let Q : List (WorkerView K) → Type 0 = λ ds. AreWorked hold setup rows (way.others ++ clerk.worker ∷ []) ds in
      record {
        others = way.others ++ clerk.worker ∷ [];
        worked = subst Q (sym pushed) (worked_push hold setup rows way.others now clerk.worker worker way.worked (subst P each.1 is));
        all = way.all ∙ (ap (λ (hs : List (HiredView K)). way.others ++ begun_at hs) popped ∙ begun_more way.others left clerk);
        same_rows = each.0;
      }

  -- all are done
  pub way_done : (now : List (WorkerView K)) (hired : List (HiredView K)) → length hired ≡ 0 → AreUnderWay hold setup rows old now hired → AreWorked hold setup rows old now
  way_done now [] none way =
      let P : List (WorkerView K) → Type 0 = λ ds. AreWorked hold setup rows ds now in
      subst P (sym (way.all ∙ append-nil way.others)) way.worked
  way_done now (clerk ∷ hired) none way = absurd (omega (arith, none))
