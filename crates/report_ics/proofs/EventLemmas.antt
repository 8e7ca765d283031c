-- Lines that are sent one after another.
use Rattle.std.proofs.Common.{◌≡◌, ◌<◌, ◌≤◌, ◌+◌, ◌∙◌, ℕ, List, [], ◌∷◌, ◌++◌, length, get_or, drop, Option, option_to_list, append_assoc, append-nil, sym, ap, subst}
use Rattle.std.specs.List.{flat_map}
use Rattle.std.proofs.lemmas.List.{at_drop_more, at_drop_all}
use Rattle.std.specs.Str.{IsUtf8}
use Rattle.content_lines.specs.Words.{sent, sent_line, HasShortLines}
use Rattle.content_lines.proofs.CallerLemmas.{sent-append, sent_lines_are_short}

-- some lines, and one more
sent-last : (lines : List (List ℕ)) (line : List ℕ) → sent (lines ++ line ∷ []) ≡ sent lines ++ sent_line line
sent-last lines line = sent-append lines (line ∷ []) ∙ ap (λ t. sent lines ++ t) (append-nil (sent_line line))

-- one part more
pub part_more : (t0 t1 t2 : List ℕ) (a b : List (List ℕ)) → t1 ≡ t0 ++ sent a → t2 ≡ t1 ++ sent b → t2 ≡ t0 ++ sent (a ++ b)
part_more t0 t1 t2 a b one two =
    two ∙ ap (λ t. t ++ sent b) one ∙ append_assoc t0 (sent a) (sent b) ∙ ap (λ t. t0 ++ t) (sym (sent-append a b))

-- and one line more
pub line_more : (t0 t1 t2 : List ℕ) (a : List (List ℕ)) (last : List ℕ) → t1 ≡ t0 ++ sent a → t2 ≡ t1 ++ sent_line last → t2 ≡ t0 ++ sent (a ++ last ∷ [])
line_more t0 t1 t2 a last one two =
    two ∙ ap (λ t. t ++ sent_line last) one ∙ append_assoc t0 (sent a) (sent_line last) ∙ ap (λ t. t0 ++ t) (sym (sent-last a last))

-- the lines of one item more
pub lines_more : {X : Type 0} (f : X → List (List ℕ)) (xs : List X) (i : ℕ) (x : X) (old new whole : List ℕ) → i < length xs → x ≡ get_or xs i x → new ≡ old ++ sent (f x) → old ++ sent (flat_map f (drop i xs)) ≡ whole → new ++ sent (flat_map f (drop (i + 1) xs)) ≡ whole
lines_more f xs i x old new whole within is added all =
    let rest = flat_map f (drop (i + 1) xs) in
    let step = at_drop_more (λ ys. sent (flat_map f ys)) xs i x within ∙ ap (λ y. sent (f y ++ rest)) (sym is) ∙ sent-append (f x) rest in
    ap (λ t. t ++ sent rest) added ∙ append_assoc old (sent (f x)) (sent rest) ∙ ap (λ t. old ++ t) (sym step) ∙ all

-- no item is left
pub no_lines_more : {X : Type 0} (f : X → List (List ℕ)) (xs : List X) (i : ℕ) (old whole : List ℕ) → length xs ≤ i → old ++ sent (flat_map f (drop i xs)) ≡ whole → old ≡ whole
no_lines_more f xs i old whole past all =
    sym (append-nil old) ∙ ap (λ t. old ++ t) (sym (at_drop_all (λ ys. sent (flat_map f ys)) xs i past)) ∙ all

-- what one item more gives, if anything
pub item_more : {X Y : Type 0} (f : X → Option Y) (xs : List X) (i : ℕ) (x : X) (old new whole : List Y) → i < length xs → x ≡ get_or xs i x → new ≡ old ++ option_to_list (f x) → old ++ flat_map (λ y. option_to_list (f y)) (drop i xs) ≡ whole → new ++ flat_map (λ y. option_to_list (f y)) (drop (i + 1) xs) ≡ whole
item_more f xs i x old new whole within is added all =
    let rest = flat_map (λ y. option_to_list (f y)) (drop (i + 1) xs) in
    let step = at_drop_more (flat_map (λ y. option_to_list (f y))) xs i x within ∙ ap (λ y. option_to_list (f y) ++ rest) (sym is) in
    ap (λ t. t ++ rest) added ∙ append_assoc old (option_to_list (f x)) rest ∙ ap (λ t. old ++ t) (sym step) ∙ all

pub all_items : {X Y : Type 0} (f : X → Option Y) (xs : List X) (i : ℕ) (old whole : List Y) → length xs ≤ i → old ++ flat_map (λ y. option_to_list (f y)) (drop i xs) ≡ whole → old ≡ whole
all_items f xs i old whole past all =
    sym (append-nil old) ∙ ap (λ t. old ++ t) (sym (at_drop_all (flat_map (λ y. option_to_list (f y))) xs i past)) ∙ all

-- a text that is what is sent of some lines has no long line
pub short_text : (text start : List ℕ) (lines : List (List ℕ)) → start ≡ [] → text ≡ start ++ sent lines → IsUtf8 text → HasShortLines text
short_text text start lines none is utf8 =
    let same : text ≡ sent lines = is ∙ ap (λ t. t ++ sent lines) none in
    subst HasShortLines (sym same) (sent_lines_are_short lines (subst IsUtf8 same utf8))

-- three lines
pub three_lines : (t0 t1 t2 t3 a b c : List ℕ) → t1 ≡ t0 ++ sent_line a → t2 ≡ t1 ++ sent_line b → t3 ≡ t2 ++ sent_line c → t3 ≡ t0 ++ sent (a ∷ b ∷ c ∷ [])
three_lines t0 t1 t2 t3 a b c one two three =
    line_more t0 t2 t3 (a ∷ b ∷ []) c (line_more t0 t1 t2 (a ∷ []) b (one ∙ ap (λ t. t0 ++ t) (sym (append-nil (sent_line a)))) two) three
