-- Lists that are alike, made from their ends.
use Rattle.std.proofs.Common.{◌≡◌, ◌∙◌, ◌++◌, ◌∷◌, [], List, sym, ap, subst, append_assoc, append-nil}
use Rattle.std.proofs.lemmas.List.{reverse-append}
use mathlib.Core.List.{reverse}
use Rattle.docket_selection.specs.Explained.Explained.{AreAlike}

-- Of a list some are left, and those after them are like these.
pub record AreLeft {X Y : Type 0} (R : X → Y → Type 0) (whole left : List X) (done : List Y) : Type 0 where
  pub later : List X
  pub parts : whole ≡ left ++ later
  pub alike : AreAlike R later (reverse done)

-- the last of those that are left is like one more
pub one_less : {X Y : Type 0} (R : X → Y → Type 0) (whole left rest : List X) (done : List Y) (x : X) (y : Y) → left ≡ rest ++ x ∷ [] → R x y → AreLeft R whole left done → AreLeft R whole rest (done ++ y ∷ [])
one_less R whole left rest done x y is like so = record {
  later = x ∷ so.later;
  parts = so.parts ∙ ap (λ l. l ++ so.later) is ∙ append_assoc rest (x ∷ []) so.later;
  alike = subst (AreAlike R (x ∷ so.later)) (sym (reverse-append done (y ∷ []))) (like, so.alike);
}

-- where none is left, the whole is alike
pub none_left : {X Y : Type 0} (R : X → Y → Type 0) (whole left : List X) (done : List Y) → left ≡ [] → AreLeft R whole left done → AreAlike R whole (reverse done)
none_left R whole left done none so = subst (λ l. AreAlike R l (reverse done)) (sym (so.parts ∙ ap (λ l. l ++ so.later) none)) so.alike

-- at first all are left
pub all_left : {X Y : Type 0} (R : X → Y → Type 0) (whole : List X) → AreLeft R whole whole []
all_left R whole = record { later = []; parts = sym (append-nil whole); alike = tt }
