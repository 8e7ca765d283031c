-- Names as a set of strings keeps them.
use Rattle.std.proofs.Common.{◌≡◌, ℕ, Bool, false, ◌||◌, not, cond, ◌+◌, List, [], ◌∷◌, ◌++◌, map, position, string_bytes, refl, sym, ap, ◌∙◌}
use Rattle.std.specs.List.{list_any, position_or_len}
use Rattle.std.proofs.lemmas.List.{map_push, length-map}
use Rattle.std.specs.Str.{bytes_eq}
use Rattle.std.specs.String.{string_eq}
use Rattle.std.specs.declared.string.String.{String}
use Rattle.std.specs.declared.alloc.Global.{Global}
use Rattle.indexmap.specs.IndexSet.{insert_key}

-- a test of the mapped elements
any-map : {X Y : Type 0} (f : X → Y) (test : Y → Bool) (xs : List X) → list_any test (map f xs) ≡ list_any (λ x. test (f x)) xs
any-map f test [] = refl
any-map f test (x ∷ xs) = ap (λ b. test (f x) || b) (any-map f test xs)

position_or_len-map : {X Y : Type 0} (f : X → Y) (test : Y → Bool) (xs : List X) → position_or_len test (map f xs) ≡ position_or_len (λ x. test (f x)) xs
position_or_len-map f test [] = refl
position_or_len-map f test (x ∷ xs) = ap (λ n. cond (not (test (f x))) (1 + n) 0) (position_or_len-map f test xs)

-- whether a text is one of the names
pub named : (keys : List (String Global)) (name : List ℕ) → list_any (λ k. bytes_eq name (string_bytes k)) keys ≡ list_any (bytes_eq name) (map string_bytes keys)
named keys name = sym (any-map string_bytes (bytes_eq name) keys)

-- the number of a name
pub numbered : (keys : List (String Global)) (name : List ℕ) → position (λ k. bytes_eq name (string_bytes k)) keys ≡ position (bytes_eq name) (map string_bytes keys)
numbered keys name = rw (position_or_len-map string_bytes (bytes_eq name) keys, length-map) refl

-- a new name goes after the others
pub added : (keys new : List (String Global)) (key : String Global) (name : List ℕ) → string_bytes key ≡ name → list_any (bytes_eq name) (map string_bytes keys) ≡ false
    → new ≡ insert_key string_eq keys key → map string_bytes new ≡ map string_bytes keys ++ name ∷ []
added keys new key name is absent inserted =
    let none : list_any (string_eq key) keys ≡ false = named keys (string_bytes key) ∙ rw is absent in
    rw (inserted, none, ← is) (map_push string_bytes keys key)
