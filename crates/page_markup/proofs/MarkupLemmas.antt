-- What is made of elements and escaped texts alone, put together of parts.
use Rattle.std.proofs.Common.{ℕ, List, [], ◌∷◌, ◌++◌}
use Rattle.std.specs.List.{flat_map}
use Rattle.page_markup.specs.declared.tag.Tag.{Tag}
use Rattle.page_markup.specs.Elements.{IsMarkup, element, text_in}
use Rattle.page_markup.specs.Elements.IsMarkup.{nothing, text, inside, after}

pub both : {first second : List ℕ} → IsMarkup first → IsMarkup second → IsMarkup (first ++ second)
both {first} {second} p q = after first second p q

pub within : (t : Tag) {inner : List ℕ} → IsMarkup inner → IsMarkup (element t inner)
within t {inner} p = inside t inner p

pub words : (t : Tag) (written : List ℕ) → IsMarkup (text_in t written)
unfolding text_in
words t written = within t (text written)

-- what each of some things has, one after another
pub each : {X : Type 0} (f : X → List ℕ) → ((x : X) → IsMarkup (f x)) → (xs : List X) → IsMarkup (flat_map f xs)
each f is [] = nothing
each f is (x ∷ xs) = both (is x) (each f is xs)
