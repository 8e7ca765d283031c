-- Names that are read from lines, and compared with others.
use Rattle.std.specs.Borrow.{Bor}
use Rattle.std.proofs.Common.{◌≡◌, ℕ, ◌+◌, ◌<◌, ◌≤◌, Bool, true, false, List, [], ◌∷◌, ◌++◌, Option, Result, Ok, Err, Some, get_or, take, drop, length, map, slice_get, refl, sym, ap, ◌∙◌, add-one, arith}
use Rattle.std.specs.Prelude.{IfOk}
use Rattle.std.specs.Str.{IsUtf8, is_utf8}
use Rattle.std.specs.Vec.{vec_items}
use Rattle.std.specs.declared.vec.Vec.{Vec}
use Rattle.std.proofs.lemmas.Iterator.{IsCollectResult, YieldsList, items_from_drains}
use Rattle.std.proofs.lemmas.List.{drop_all, drop_more, map-append, take_all, take_more}
use Rattle.std.proofs.lemmas.Option.{get_or_from_slice_get, slice_get_within}
use Rattle.std.proofs.lemmas.Str.{IsUtf8-from_is_utf8}
use Rattle.court_writing.specs.Names.{IsFault, and_line, each_after, each_line}
use Rattle.court_writing.specs.Own.{texts}
use Rattle.court_writing.specs.declared.names.NamesFault.{NamesFault}
use Rattle.court_writing.specs.declared.names.NamesFault.TheVariants.{BadName, Twice, TooMany, OutOfMemory}

-- what an iterator gives, seen by a view, where it is collected
pub views_from_collect : {S A B Z E : Type 0} {steps : S → Option A → S → Type 0} {v : A → B} {s : S} {all : List B} (r : Result (Vec A Z) E)
    → IsCollectResult steps s r → YieldsList steps v s all → IfOk r (λ w. map v (vec_items w) ≡ all)
views_from_collect {v = v} (Ok w) d e = ap (map v) d.2.0 ∙ items_from_drains d.0 d.1 e
views_from_collect (Err x) d e = tt

-- the lines from one on are that line and those after it
lines_left : (number : ℕ) (names : List (List ℕ)) (lines : List (Bor (List ℕ))) (i : ℕ) (d : Bor (List ℕ)) → i < length lines
    → each_line number names (texts (drop i lines)) ≡ each_after (and_line number names (get_or lines i d).now) (λ more. each_line (number + 1) more (texts (drop (i + 1) lines)))
unfolding each_line
lines_left number names lines i d below =
    ap (λ (ls : List (Bor (List ℕ))). each_line number names (texts ls)) (drop_more lines i d below)
    ∙ ap (λ (n : ℕ). each_after (and_line number names (get_or lines i d).now) (λ more. each_line n more (texts (drop (i + 1) lines)))) (sym (add-one number))

-- one line more
pub line_goes_on : (names more : List (List ℕ)) (whole : Result (List (List ℕ)) NamesFault) (lines : List (Bor (List ℕ))) (i : ℕ) (d : Bor (List ℕ))
    → i < length lines → and_line (i + 1) names (get_or lines i d).now ≡ Ok more
    → each_line (i + 1) names (texts (drop i lines)) ≡ whole → each_line (i + 1 + 1) more (texts (drop (i + 1) lines)) ≡ whole
line_goes_on names more whole lines i d below added same =
    rw added at (sym (lines_left (i + 1) names lines i d below) ∙ same)

fault_after : (read whole : Result (List (List ℕ)) NamesFault) (next : List (List ℕ) → Result (List (List ℕ)) NamesFault) (fault : NamesFault) → IsFault fault read → each_after read next ≡ whole → IsFault fault whole
fault_after read whole next (BadName n) is same = sym same ∙ ap (λ r. each_after r next) is
fault_after read whole next (Twice n) is same = sym same ∙ ap (λ r. each_after r next) is
fault_after read whole next (TooMany n) is same = sym same ∙ ap (λ r. each_after r next) is
fault_after read whole next OutOfMemory is same = tt

-- the fault of a line is that of all lines
pub line_fails : (names : List (List ℕ)) (whole : Result (List (List ℕ)) NamesFault) (lines : List (Bor (List ℕ))) (i : ℕ) (d : Bor (List ℕ)) (fault : NamesFault)
    → i < length lines → IsFault fault (and_line (i + 1) names (get_or lines i d).now)
    → each_line (i + 1) names (texts (drop i lines)) ≡ whole → IsFault fault whole
line_fails names whole lines i d fault below fails same =
    fault_after (and_line (i + 1) names (get_or lines i d).now) whole _ fault fails (sym (lines_left (i + 1) names lines i d below) ∙ same)

-- no line is left
pub lines_done : (names : List (List ℕ)) (whole : Result (List (List ℕ)) NamesFault) (lines : List (Bor (List ℕ))) (i : ℕ)
    → length lines ≤ i → each_line (i + 1) names (texts (drop i lines)) ≡ whole → whole ≡ Ok names
unfolding each_line
lines_done names whole lines i past same = sym same ∙ ap (λ (ls : List (Bor (List ℕ))). each_line (i + 1) names (texts ls)) (drop_all i lines past)

-- the names of a court's file so far, and one more that is the same
pub same_more : (read : List (List ℕ)) (names : List (Bor (List ℕ))) (i : ℕ) (d : Bor (List ℕ)) → i < length names
    → slice_get read i ≡ Some (get_or names i d).now → take i read ≡ texts (take i names) → take (i + 1) read ≡ texts (take (i + 1) names)
same_more read names i d below here so_far =
    let name = get_or names i d in
    let more_read : take (i + 1) read ≡ take i read ++ name.now ∷ [] =
    take_more read i name.now (slice_get_within read i name.now here) ∙ ap (λ x. take i read ++ x ∷ []) (get_or_from_slice_get read i name.now name.now here) in
    more_read ∙ ap (λ t. t ++ name.now ∷ []) so_far ∙ sym (map-append (λ (x : Bor (List ℕ)). x.now) (take i names) (name ∷ [])) ∙ ap texts (sym (take_more names i d below))

-- all of them
pub same_all : (read : List (List ℕ)) (names : List (Bor (List ℕ))) (i : ℕ) → length read ≡ length names → length names ≤ i → take i read ≡ texts (take i names) → read ≡ texts names
same_all read names i same past so_far =
    sym (take_all i read (omega (arith, same, past))) ∙ so_far ∙ ap texts (take_all i names past)

-- a line that is no text has no name
pub no_text : (number : ℕ) (names : List (List ℕ)) (line : List ℕ) → (IsUtf8 line → ⊥) → and_line number names line ≡ Err (BadName number)
no_text number names line not = by_test (is_utf8 line) refl where
  by_test : (b : Bool) → is_utf8 line ≡ b → and_line number names line ≡ Err (BadName number)
  by_test true is = absurd (not (IsUtf8-from_is_utf8 line is))
  by_test false is = rw is refl
