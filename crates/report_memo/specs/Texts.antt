-- How texts are put together of parts of which there may be more than one.
use Rattle.std.specs.Prelude.{◌≡◌, ℕ, List, [], ◌∷◌, ◌++◌, String, Result, OnOk, string_bytes}
use Rattle.std.specs.declared.alloc.Global.{Global}

-- this text and no other
abbrev pub Is : List ℕ → List ℕ → Type 0
Is wanted text = text ≡ wanted

-- a text of the first kind, and after it one of the second
pub record Then (First Second : List ℕ → Type 0) (text : List ℕ) : Type 0 where
  pub front : List ℕ
  pub back : List ℕ
  pub is_front : First front
  pub is_back : Second back
  pub joined : text ≡ front ++ back

-- a text for each of some things, in their order
unfoldable pub Each : {A : Type 0} → (A → List ℕ → Type 0) → List A → List ℕ → Type 0
Each IsFor [] = Is []
Each IsFor (x ∷ xs) = Then (IsFor x) (Each IsFor xs)

-- a text of a kind is added
pub record Adds (IsKind : List ℕ → Type 0) (old new : List ℕ) : Type 0 where
  pub added : List ℕ
  pub is_kind : IsKind added
  pub appended : new ≡ old ++ added

-- a text of a kind is added, unless memory ran out
abbrev pub Pushes : {E : Type 0} → (List ℕ → Type 0) → Result (Unit {0}) E → (old new : String Global) → Type 0
Pushes IsKind result old new = OnOk result (Adds IsKind (string_bytes old) (string_bytes new))
