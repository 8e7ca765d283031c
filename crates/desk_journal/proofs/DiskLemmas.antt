-- What torn writes and cuts leave, as lists.
use Rattle.std.proofs.Common.{◌≡◌, ℕ, ◌+◌, ◌<◌, ◌≤◌, List, [], ◌∷◌, ◌++◌, length, take, drop, get_or, refl, sym, ◌∙◌, ap, subst, arith, add-zero, zero-add, append_assoc, length-append, take-append-drop, length-drop}
use Rattle.std.proofs.lemmas.List.{take_at, drop_at, drop_all, drop_more, ext_get_or, append-nil, length-take-le, get_or-take, get_or-drop}
use Rattle.sqlite_disk.specs.Disk.{Holds, Torn, Cut, Follows, Only}
use Rattle.desk_journal.specs.Disks.{IsLonger, IsAround}

front_kept : (at : ℕ) (old c : List ℕ) → at ≤ length old → at ≤ length c → ((i : ℕ) → i < at → get_or c i 0 ≡ get_or old i 0) → take at c ≡ take at old
front_kept at old c in_old in_c same =
    ext_get_or 0 (take at c) (take at old) (long_c ∙ sym long_old)
    (λ i inside. let low : i < at = omega (arith, long_c) in get_or-take at c i 0 low ∙ same i low ∙ sym (get_or-take at old i 0 low))
  where
    long_c : length (take at c) ≡ at
    long_c = length-take-le at c in_c

    long_old : length (take at old) ≡ at
    long_old = length-take-le at old in_old

back_kept : (at : ℕ) (old c : List ℕ) → length c ≡ length old → ((i : ℕ) → at ≤ i → i < length old → get_or c i 0 ≡ get_or old i 0) → drop at c ≡ drop at old
back_kept at old c long same =
    ext_get_or 0 (drop at c) (drop at old) (omega (arith, length-drop at c, length-drop at old))
    (λ i inside. get_or-drop at c i 0 ∙ same (at + i) (omega arith) (omega (arith, length-drop at c)) ∙ sym (get_or-drop at old i 0))

-- a file whose front is kept is that front and what follows
fronted : (front rest c : List ℕ) → length front ≤ length c → ((i : ℕ) → i < length front → get_or c i 0 ≡ get_or (front ++ rest) i 0) → c ≡ front ++ drop (length front) c
fronted front rest c long same =
    sym (take-append-drop (length front) c)
    ∙ ap (λ (l : List ℕ). l ++ drop (length front) c)
    (front_kept (length front) (front ++ rest) c (omega (arith, length-append front rest)) long same ∙ take_at front rest (length front) refl)

-- a write after the end leaves all that comes before it
pub torn_end : (file c : List ℕ) (n : ℕ) → Torn (length file) n file c → c ≡ file ++ drop (length file) c
torn_end file c n torn =
    fronted file [] c torn.no_shorter (λ i low. torn.below i low low ∙ ap (λ (l : List ℕ). get_or l i 0) (sym (append-nil file)))

pub written_end : (file bytes c : List ℕ) → Torn (length file) (length bytes) file c → Holds c (length file) bytes → c ≡ file ++ bytes
written_end file bytes c torn holds =
    torn_end file c (length bytes) torn ∙ ap (λ (l : List ℕ). file ++ l) there
  where
    long : length c ≡ length file + length bytes
    long = omega (arith, torn.no_longer, holds.within)

    there : drop (length file) c ≡ bytes
    there = ext_get_or 0 (drop (length file) c) bytes (omega (arith, length-drop (length file) c, long))
        (λ i inside. get_or-drop (length file) c i 0 ∙ holds.each i (omega (arith, length-drop (length file) c, long)))

-- a write of two bytes leaves what comes before and after them
torn_latch : (front tail c : List ℕ) (a b : ℕ) → Torn (length front) 2 (front ++ a ∷ b ∷ tail) c → c ≡ front ++ get_or c (length front) 0 ∷ get_or c (length front + 1) 0 ∷ tail
torn_latch front tail c a b torn =
    fronted front (a ∷ b ∷ tail) c (omega (arith, long, whole)) (λ i low. torn.below i (omega (arith, whole)) low)
    ∙ ap (λ (l : List ℕ). front ++ l)
    (drop_more c (length front) 0 (omega (arith, long, whole))
    ∙ ap (λ (l : List ℕ). get_or c (length front) 0 ∷ l)
    (drop_more c (length front + 1) 0 (omega (arith, long, whole)) ∙ ap (λ (l : List ℕ). get_or c (length front + 1) 0 ∷ l) behind))
  where
    whole : length (front ++ a ∷ b ∷ tail) ≡ length front + 2 + length tail
    whole = omega (arith, length-append front (a ∷ b ∷ tail))

    long : length c ≡ length (front ++ a ∷ b ∷ tail)
    long = omega (arith, torn.no_shorter, torn.no_longer, whole)

    split : front ++ a ∷ b ∷ tail ≡ (front ++ a ∷ b ∷ []) ++ tail
    split = sym (append_assoc front (a ∷ b ∷ []) tail)

    two : length front + 1 + 1 ≡ length front + 2
    two = omega arith

    behind : drop (length front + 1 + 1) c ≡ tail
    behind = ap (λ (n : ℕ). drop n c) two
        ∙ back_kept (length front + 2) (front ++ a ∷ b ∷ tail) c long (λ i past low. torn.above i low past)
        ∙ ap (λ (l : List ℕ). drop (length front + 2) l) split
        ∙ drop_at (front ++ a ∷ b ∷ []) tail (length front + 2) (omega (arith, length-append front (a ∷ b ∷ [])))

pub written_latch : (front tail c : List ℕ) (a b latch second : ℕ) → Torn (length front) 2 (front ++ a ∷ b ∷ tail) c → Holds c (length front) (latch ∷ second ∷ []) → c ≡ front ++ latch ∷ second ∷ tail
written_latch front tail c a b latch second torn holds =
    torn_latch front tail c a b torn ∙ (λ i. front ++ here i ∷ there i ∷ tail)
  where
    here : get_or c (length front) 0 ≡ latch
    here = ap (λ (i : ℕ). get_or c i 0) (sym (add-zero (length front))) ∙ holds.each 0 (omega arith)

    there : get_or c (length front + 1) 0 ≡ second
    there = holds.each 1 (omega arith)

-- a cut after a file's front leaves the front
pub cut_front : (front end c : List ℕ) → Cut (length front) (front ++ end) c → c ≡ front ++ drop (length front) c
cut_front front end c cut =
    fronted front end c (omega (arith, cut.no_shorter, length-append front end))
    (λ i low. cut.below i (omega (arith, length-append front end)) low)

cut_done : (front end c : List ℕ) → Cut (length front) (front ++ end) c → length c ≡ length front → c ≡ front
cut_done front end c cut long =
    cut_front front end c cut ∙ ap (λ (l : List ℕ). front ++ l) (drop_all (length front) c (omega (arith, long))) ∙ append-nil front

-- the file up to its shut latch
shut_front : (front tail : List ℕ) → front ++ 45 ∷ 45 ∷ tail ≡ (front ++ 45 ∷ 45 ∷ []) ++ tail
shut_front front tail = sym (append_assoc front (45 ∷ 45 ∷ []) tail)

two_more : (front : List ℕ) (at : ℕ) → length front ≡ at → length (front ++ 45 ∷ 45 ∷ []) ≡ at + 2
two_more front at is = omega (arith, is, length-append front (45 ∷ 45 ∷ []))

-- the same where the file before it and the place are known by other names
pub latch_written : (front tail : List ℕ) (at a b latch second : ℕ) (before after : List ℕ) → length front ≡ at → before ≡ front ++ a ∷ b ∷ tail → Torn at 2 before after → Holds after at (latch ∷ second ∷ []) → after ≡ front ++ latch ∷ second ∷ tail
latch_written front tail at a b latch second before after is was torn holds =
    written_latch front tail after a b latch second
    (subst (λ (n : ℕ). Torn n 2 (front ++ a ∷ b ∷ tail) after) (sym is) (subst (λ (f : List ℕ). Torn at 2 f after) was torn))
    (subst (λ (n : ℕ). Holds after n (latch ∷ second ∷ [])) (sym is) holds)

pub cut_made : (front tail : List ℕ) (at : ℕ) (before after : List ℕ) → length front ≡ at → before ≡ front ++ 45 ∷ 45 ∷ tail → Cut (at + 2) before after → length after ≡ at + 2 → after ≡ front ++ 45 ∷ 45 ∷ []
cut_made front tail at before after is was cut long =
    cut_done (front ++ 45 ∷ 45 ∷ []) tail after
    (subst (λ (n : ℕ). Cut n ((front ++ 45 ∷ 45 ∷ []) ++ tail) after) (sym (two_more front at is)) (subst (λ (f : List ℕ). Cut (at + 2) f after) (was ∙ shut_front front tail) cut))
    (long ∙ sym (two_more front at is))

-- the same of what a crash may leave, of which there was one content before
pub crash_end : (file : List ℕ) (at n : ℕ) (old new : List ℕ → Type 0) → length file ≡ at → Only file old → Follows (Torn at n) old new → (c : List ℕ) → new c → IsLonger file c
crash_end file at n old new is only follows c left =
    let from = follows c left in
    let torn : Torn (length file) n file c = subst (λ (a : ℕ). Torn a n file c) (sym is) (subst (λ (f : List ℕ). Torn at n f c) (only from.0 from.1) from.2) in
    (drop (length file) c, torn_end file c n torn)

pub crash_latch : (front tail : List ℕ) (at a b : ℕ) (old new : List ℕ → Type 0) → length front ≡ at → Only (front ++ a ∷ b ∷ tail) old → Follows (Torn at 2) old new → (c : List ℕ) → new c → IsAround front tail c
crash_latch front tail at a b old new is only follows c left =
    let from = follows c left in
    let torn : Torn (length front) 2 (front ++ a ∷ b ∷ tail) c = subst (λ (n : ℕ). Torn n 2 (front ++ a ∷ b ∷ tail) c) (sym is) (subst (λ (f : List ℕ). Torn at 2 f c) (only from.0 from.1) from.2) in
    (get_or c (length front) 0, get_or c (length front + 1) 0, torn_latch front tail c a b torn)

pub crash_cut : (front tail : List ℕ) (at : ℕ) (old new : List ℕ → Type 0) → length front ≡ at → Only (front ++ 45 ∷ 45 ∷ tail) old → Follows (Cut (at + 2)) old new → (c : List ℕ) → new c → IsLonger (front ++ 45 ∷ 45 ∷ []) c
crash_cut front tail at old new is only follows c left =
    let from = follows c left in
    let cut : Cut (length (front ++ 45 ∷ 45 ∷ [])) ((front ++ 45 ∷ 45 ∷ []) ++ tail) c =
    subst (λ (n : ℕ). Cut n ((front ++ 45 ∷ 45 ∷ []) ++ tail) c) (sym (two_more front at is)) (subst (λ (f : List ℕ). Cut (at + 2) f c) (only from.0 from.1 ∙ shut_front front tail) from.2) in
    (drop (length (front ++ 45 ∷ 45 ∷ [])) c, cut_front (front ++ 45 ∷ 45 ∷ []) tail c cut)

-- a shut latch that is written into at most two bytes
pub shut_written : (before after : List ℕ) → length before ≤ 2 → Torn 0 2 before after → Holds after 0 (45 ∷ 45 ∷ []) → after ≡ 45 ∷ 45 ∷ []
shut_written before after short torn holds =
    ext_get_or 0 after (45 ∷ 45 ∷ []) (omega (arith, short, torn.no_longer, holds.within)) (λ i inside. ap (λ (n : ℕ). get_or after n 0) (sym (zero-add i)) ∙ holds.each i (omega (arith, inside, short, torn.no_longer)))

pub crash_shut : (file : List ℕ) (old new : List ℕ → Type 0) → length file ≤ 2 → Only file old → Follows (Torn 0 2) old new → (c : List ℕ) → new c → length c ≤ 2
crash_shut file old new short only follows c left =
    let from = follows c left in
    let torn : Torn 0 2 file c = subst (λ (f : List ℕ). Torn 0 2 f c) (only from.0 from.1) from.2 in
    omega (arith, short, torn.no_longer)
