-- What is written on the reads up to a place.
use Rattle.std.proofs.Common.{◌≡◌, ℕ, ◌+◌, ◌<◌, List, [], ◌∷◌, ◌++◌, length, get_or, take, option_to_list, Option, Some, None, filter_map, ap, sym, ◌∙◌, refl}
use Rattle.std.specs.List.{cons_option}
use Rattle.std.proofs.lemmas.Grind.{take_at_read}
use Rattle.std.proofs.lemmas.List.{append-nil}
use Rattle.std.proofs.lemmas.List.Elements.{filter_map-append}

pub written_more : {X Y : Type 0} (h : X → Option Y) (xs : List X) (i : ℕ) (d : X) → i < length xs → filter_map h (take (i + 1) xs) ≡ filter_map h (take i xs) ++ option_to_list (h (get_or xs i d))
written_more h xs i d within =
    ap (filter_map h) (take_at_read xs i d within).1
    ∙ filter_map-append h (take i xs) (get_or xs i d ∷ [])
    ∙ ap (λ ys. filter_map h (take i xs) ++ ys) (one (h (get_or xs i d))) where
      one : {Y : Type 0} (o : Option Y) → cons_option o [] ≡ option_to_list o
      one None = refl
      one (Some y) = refl

-- one read more, and what is written on it
pub written_step : {X Y : Type 0} (h : X → Option Y) (xs : List X) (i : ℕ) (x : X) (w : Option Y) (before after : List Y) → i < length xs → x ≡ get_or xs i x → before ≡ filter_map h (take i xs) → w ≡ h x → after ≡ before ++ option_to_list w → after ≡ filter_map h (take (i + 1) xs)
written_step h xs i x w before after within is so_far written added =
    added
    ∙ ap (λ bs. bs ++ option_to_list w) so_far
    ∙ ap (λ o. filter_map h (take i xs) ++ option_to_list o) (written ∙ ap h is)
    ∙ sym (written_more h xs i x within)

-- nothing more
pub nothing_more : {X : Type 0} (xs : List X) → xs ++ [] ≡ xs
nothing_more xs = append-nil xs
