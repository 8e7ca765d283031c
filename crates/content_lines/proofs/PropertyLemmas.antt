-- Properties are content lines, and lines are sent one after another.
use Rattle.std.proofs.Common.{◌≡◌, ◌<◌, ◌∙◌, ℕ, true, not, List, [], ◌∷◌, ◌++◌, length, refl, ap, arith}
use Rattle.std.specs.List.{flat_map, list_all}
use Rattle.std.proofs.lemmas.Bool.{and_parts, and_from}
use Rattle.std.proofs.lemmas.List.Concat.{flat_map-append}
use Rattle.std.proofs.lemmas.List.Folds.{list_all-append}
use Rattle.content_lines.specs.Escaping.{escaped}
use Rattle.content_lines.specs.Folding.{begins_with_blank, is_content_line, is_inside, sent_line}
use Rattle.content_lines.specs.Property.{property, sent}
use Rattle.content_lines.proofs.EscapingLemmas.{inside-escaped}

-- a property is a content line, if its name is one and isn't empty
pub property-content : (name value : List ℕ) → 0 < length name → is_content_line name ≡ true → is_content_line (property name value) ≡ true
unfolding property
property-content [] value some is = absurd (omega (arith, some))
property-content (b ∷ bs) value some is =
    let parts = and_parts (list_all is_inside (b ∷ bs)) (not (begins_with_blank (b ∷ bs))) is in
    let rest : list_all is_inside (58 ∷ escaped value) ≡ true = inside-escaped value in
    let all = list_all-append is_inside (b ∷ bs) (58 ∷ escaped value) ∙ and_from (list_all is_inside (b ∷ bs)) (list_all is_inside (58 ∷ escaped value)) parts.0 rest in
    and_from (list_all is_inside ((b ∷ bs) ++ 58 ∷ escaped value)) (not (begins_with_blank ((b ∷ bs) ++ 58 ∷ escaped value))) all parts.1

pub sent-append : (xs ys : List (List ℕ)) → sent (xs ++ ys) ≡ sent xs ++ sent ys
sent-append xs ys = flat_map-append sent_line xs ys

pub sent-flat_map : {X : Type 0} (f : X → List (List ℕ)) (xs : List X) → sent (flat_map f xs) ≡ flat_map (λ x. sent (f x)) xs
sent-flat_map f [] = refl
sent-flat_map f (x ∷ xs) = sent-append (f x) (flat_map f xs) ∙ ap (λ r. sent (f x) ++ r) (sent-flat_map f xs)
