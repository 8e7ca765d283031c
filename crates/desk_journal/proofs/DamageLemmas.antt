-- A changed byte is found, unless two texts have one checksum.
use Rattle.std.proofs.Common.{◌≡◌, ◌≢◌, ◌≤◌, ◌⊎◌, inl, inr, ℕ, Bool, true, false, List, [], ◌∷◌, ◌++◌, length, refl, sym, ◌∙◌, ap, arith, append_assoc, length-append}
use Rattle.std.specs.Prelude.{All, ⊤, map}
use Rattle.std.specs.Str.{bytes_eq}
use Rattle.std.proofs.lemmas.List.{append-nil, append_cancel_left, map-append}
use Rattle.std.proofs.lemmas.Bool.Decides.{not_from_Decides}
use Rattle.std.proofs.lemmas.Slice.Eq.{bytes_eq-Decides}
use Rattle.std.proofs.lemmas.List.Elements.{All-cons, All-head, All-tail}
use Rattle.sha2.specs.Sha256.{sha256}
use Rattle.desk_journal.specs.Damage.{DifferInOne, BeginsWithEntries, Collide, NoEntryIsAnother, CutFilesKeepTheFirst}
use Rattle.desk_journal.specs.Frames.{Frame, IsFrame, IsJournal, IsShut, number_of, checksum, first_checksum, last_checksum, packed, frames, entries_of}
use Rattle.desk_journal.specs.Stamps.{entry_in}
use Rattle.desk_journal.proofs.FrameLemmas.{IsFrame-relatched, apart, frames-relatched, length-checksum, relatched}
use Rattle.desk_journal.proofs.OneList.{ends_shut, further, none_framed, same_walk}

-- equal texts that are cut at one length
record SameHalves (p q x y : List ℕ) : Type 0 where
  first : p ≡ q
  rest : x ≡ y

same_halves : (p q x y : List ℕ) → length p ≡ length q → p ++ x ≡ q ++ y → SameHalves p q x y
same_halves [] [] x y long e = record { first = refl; rest = e }
same_halves [] (b ∷ q) x y long e = absurd (omega (arith, long))
same_halves (a ∷ p) [] x y long e = absurd (omega (arith, long))
same_halves (a ∷ p) (b ∷ q) x y long e =
    let on = same_halves p q x y (omega (arith, long)) cc in
    let one : a ≡ b = cc in
    record { first = cc; rest = on.rest }

-- two texts that are cut at one length differ before the cut or after it
abbrev Half : (p q x y : List ℕ) → Type 0
Half p q x y = ((p ≡ q) × DifferInOne x y) ⊎ ((x ≡ y) × DifferInOne p q)

half : (p q x y front : List ℕ) (byte changed : ℕ) (tail : List ℕ) → length p ≡ length q → p ++ x ≡ front ++ byte ∷ tail → q ++ y ≡ front ++ changed ∷ tail → Half p q x y
half [] [] x y front byte changed tail long e f = inl (refl, record { front = front; byte = byte; changed = changed; tail = tail; file_is = e; other_is = f })
half [] (b ∷ q) x y front byte changed tail long e f = absurd (omega (arith, long))
half (a ∷ p) [] x y front byte changed tail long e f = absurd (omega (arith, long))
half (a ∷ p) (b ∷ q) x y [] byte changed tail long e f =
    let on = same_halves p q x y (omega (arith, long)) cc in
    inr (on.rest, record { front = []; byte = a; changed = b; tail = p; file_is = refl; other_is = ap (λ (l : List ℕ). b ∷ l) (sym on.first) })
half (a ∷ p) (b ∷ q) x y (c ∷ front) byte changed tail long e f =
    let before : p ++ x ≡ front ++ byte ∷ tail = cc in
    let after : q ++ y ≡ front ++ changed ∷ tail = cc in
    joined (half p q x y front byte changed tail (omega (arith, long)) before after)
  where
    same : a ≡ b
    same = cc

    joined : Half p q x y → Half (a ∷ p) (b ∷ q) x y
    joined (inl both) = inl (cc, both.1)
    joined (inr both) = inr (
      both.0,
      record {
        front = a ∷ both.1.front;
        byte = both.1.byte;
        changed = both.1.changed;
        tail = both.1.tail;
        file_is = ap (λ (l : List ℕ). a ∷ l) both.1.file_is;
        other_is = ap (λ (b : ℕ). b ∷ q) (sym same) ∙ ap (λ (l : List ℕ). a ∷ l) both.1.other_is;
      },
    )

-- the same of texts that differ in one byte
halved : (p q x y : List ℕ) → length p ≡ length q → DifferInOne (p ++ x) (q ++ y) → Half p q x y
halved p q x y long d = half p q x y d.front d.byte d.changed d.tail long d.file_is d.other_is

decided : (xs ys : List ℕ) → (xs ≡ ys) ⊎ (xs ≢ ys)
decided xs ys = by (bytes_eq xs ys) refl
  where
    by : (b : Bool) → bytes_eq xs ys ≡ b → (xs ≡ ys) ⊎ (xs ≢ ys)
    by true e = inl ((bytes_eq-Decides xs ys).0 e)
    by false e = inr (not_from_Decides (bytes_eq xs ys) (bytes_eq-Decides xs ys) e)

-- what frames hold
abbrev pub contents_of : List Frame → List (List ℕ)
contents_of fs = map (λ f. f.content) fs

entries_in : (fs : List Frame) → entries_of fs ≡ map entry_in (contents_of fs)
entries_in [] = refl
entries_in (f ∷ fs) = λ i. entry_in f.content ∷ entries_in fs i

pub same_entries : (fs gs : List Frame) → contents_of fs ≡ contents_of gs → entries_of fs ≡ entries_of gs
same_entries fs gs same = entries_in fs ∙ ap (map entry_in) same ∙ sym (entries_in gs)

-- What is to be shown of the frames of two files: it holds where their contents are the same, after one frame more whose contents are,
-- and where two texts collide.
pub record IsShown (Rel : List Frame → List Frame → Type 0) : Type 0 where
  pub same : (fs gs : List Frame) → contents_of fs ≡ contents_of gs → Rel fs gs
  pub onward : (f g : Frame) (fs gs : List Frame) → f.content ≡ g.content → Rel fs gs → Rel (f ∷ fs) (g ∷ gs)
  pub broken : (fs gs : List Frame) → Collide → Rel fs gs

split_text : (previous d s e : List ℕ) → previous ++ d ++ s ++ e ≡ previous ++ (d ++ (s ++ e))
split_text previous d s e = append_assoc (previous ++ d) s e ∙ append_assoc previous d (s ++ e)

-- a checksum is of the numbers and the entry alone
same_sum : (previous : List ℕ) (f g : Frame) → f.durable ≡ g.durable → f.size ≡ g.size → f.content ≡ g.content → checksum previous f ≡ checksum previous g
unfolding checksum
same_sum previous f g durables sizes entries = λ i. sha256 (previous ++ durables i ++ sizes i ++ entries i)

-- Of two files that end so.
module _ (Rel : List Frame → List Frame → Type 0) (shown : IsShown Rel) (end more : List ℕ) (shut : IsShut end) (shut' : IsShut more) where
  -- files that are the same
  equal : (previous : List ℕ) (fs gs : List Frame) → All IsFrame fs → All IsFrame gs → frames previous fs ++ end ≡ frames previous gs ++ more → Rel fs gs
  equal previous fs gs are_f are_g e =
      let walk = same_walk previous fs gs end more are_f are_g (ends_shut (last_checksum previous fs) end shut) (ends_shut (last_checksum previous gs) more shut') e in
      shown.same fs gs (ap contents_of walk.frames_are)

  -- Two frames after the same bytes, of which each begins its file's rest.
  module _ (previous : List ℕ) (f g : Frame) (fs gs : List Frame) (is_f : IsFrame f) (is_g : IsFrame g) (are_f : All IsFrame fs) (are_g : All IsFrame gs)
      (next : DifferInOne (frames (checksum previous f) fs ++ end) (frames (checksum previous f) gs ++ more) → Rel fs gs) where
    abbrev x : List ℕ
    x = frames (checksum previous f) fs ++ end

    abbrev y : List ℕ
    y = frames (checksum previous g) gs ++ more

    -- the sums and all after the frames are the same, and so are the entries
    rest_same : f.content ≡ g.content → checksum previous f ≡ checksum previous g → x ≡ y → Rel (f ∷ fs) (g ∷ gs)
    rest_same entries sums rests = shown.onward f g fs gs entries (equal (checksum previous f) fs gs are_f are_g (rests ∙ ap (λ (s : List ℕ). frames s gs ++ more) (sym sums)))

    -- the texts of which the checksums are taken
    abbrev text_f : List ℕ
    text_f = previous ++ f.durable ++ f.size ++ f.content

    abbrev text_g : List ℕ
    text_g = previous ++ g.durable ++ g.size ++ g.content

    collide : text_f ≢ text_g → checksum previous f ≡ checksum previous g → Collide
    unfolding checksum
    collide differ sums = record { one = text_f; another = text_g; differ = differ; same = sums }

    same_text : text_f ≡ text_g → SameHalves f.size g.size f.content g.content
    same_text e =
        let parts = same_halves f.durable g.durable (f.size ++ f.content) (g.size ++ g.content) (is_f.sized.four ∙ sym is_g.sized.four) (append_cancel_left previous (f.durable ++ (f.size ++ f.content)) (g.durable ++ (g.size ++ g.content)) (sym (split_text previous f.durable f.size f.content) ∙ e ∙ split_text previous g.durable g.size g.content)) in
        same_halves f.size g.size f.content g.content (is_f.sized.four_more ∙ sym is_g.sized.four_more) parts.rest

    sized : f.size ≡ g.size → length f.content ≡ length g.content
    sized sizes = sym is_f.sized.long ∙ ap number_of sizes ∙ is_g.sized.long

    -- the lengths are the same, and so is all from the checksums on
    sums_same : f.size ≡ g.size → checksum previous f ≡ checksum previous g → f.content ++ x ≡ g.content ++ y → Rel (f ∷ fs) (g ∷ gs)
    sums_same sizes sums behind = let parts = same_halves f.content g.content x y (sized sizes) behind in rest_same parts.first sums parts.rest

    -- the changed byte is after the checksum
    behind_sum : f.size ≡ g.size → checksum previous f ≡ checksum previous g → Half f.content g.content x y → Rel (f ∷ fs) (g ∷ gs)
    behind_sum sizes sums (inl both) = shown.onward f g fs gs both.0 (next (record {
      front = both.1.front;
      byte = both.1.byte;
      changed = both.1.changed;
      tail = both.1.tail;
      file_is = both.1.file_is;
      other_is = ap (λ (s : List ℕ). frames s gs ++ more) sums ∙ both.1.other_is;
    }))
    behind_sum sizes sums (inr both) = by (decided f.content g.content)
      where
        by : (f.content ≡ g.content) ⊎ (f.content ≢ g.content) → Rel (f ∷ fs) (g ∷ gs)
        by (inl entries) = rest_same entries sums both.0
        by (inr differ) = shown.broken (f ∷ fs) (g ∷ gs) (collide (λ e. differ (same_text e).rest) sums)

    -- the changed byte is in the checksum or after it
    at_sum : f.durable ≡ g.durable → f.size ≡ g.size → Half (checksum previous f) (checksum previous g) (f.content ++ x) (g.content ++ y) → Rel (f ∷ fs) (g ∷ gs)
    at_sum durables sizes (inl both) = behind_sum sizes both.0 (halved f.content g.content x y (sized sizes) both.1)
    at_sum durables sizes (inr both) =
        let parts = same_halves f.content g.content x y (sized sizes) both.0 in
        rest_same parts.first (same_sum previous f g durables sizes parts.first) parts.rest

    -- the changed byte is in the length or after it
    at_size : f.durable ≡ g.durable → Half f.size g.size (checksum previous f ++ (f.content ++ x)) (checksum previous g ++ (g.content ++ y)) → Rel (f ∷ fs) (g ∷ gs)
    at_size durables (inl both) = at_sum durables both.0 (halved (checksum previous f) (checksum previous g) (f.content ++ x) (g.content ++ y) (length-checksum previous f ∙ sym (length-checksum previous g)) both.1)
    at_size durables (inr both) = by (decided f.size g.size)
      where
        parts : SameHalves (checksum previous f) (checksum previous g) (f.content ++ x) (g.content ++ y)
        parts = same_halves (checksum previous f) (checksum previous g) (f.content ++ x) (g.content ++ y) (length-checksum previous f ∙ sym (length-checksum previous g)) both.0

        by : (f.size ≡ g.size) ⊎ (f.size ≢ g.size) → Rel (f ∷ fs) (g ∷ gs)
        by (inl sizes) = sums_same sizes parts.first parts.rest
        by (inr differ) = shown.broken (f ∷ fs) (g ∷ gs) (collide (λ e. differ (same_text e).first) parts.first)

    -- the changed byte is anywhere
    at_durable : Half f.durable g.durable (f.size ++ (checksum previous f ++ (f.content ++ x))) (g.size ++ (checksum previous g ++ (g.content ++ y))) → Rel (f ∷ fs) (g ∷ gs)
    at_durable (inl both) = at_size both.0 (halved f.size g.size (checksum previous f ++ (f.content ++ x)) (checksum previous g ++ (g.content ++ y)) (is_f.sized.four_more ∙ sym is_g.sized.four_more) both.1)
    at_durable (inr both) =
        let sizes = same_halves f.size g.size (checksum previous f ++ (f.content ++ x)) (checksum previous g ++ (g.content ++ y)) (is_f.sized.four_more ∙ sym is_g.sized.four_more) both.0 in
        let sums = same_halves (checksum previous f) (checksum previous g) (f.content ++ x) (g.content ++ y) (length-checksum previous f ∙ sym (length-checksum previous g)) sizes.rest in
        sums_same sizes.first sums.first sums.rest

    at_frame : (front : List ℕ) (byte changed : ℕ) (tail : List ℕ) → packed previous f ++ x ≡ front ++ byte ∷ tail → packed previous g ++ y ≡ front ++ changed ∷ tail → Rel (f ∷ fs) (g ∷ gs)
    at_frame front byte changed tail e h =
        at_durable (half f.durable g.durable (f.size ++ (checksum previous f ++ (f.content ++ x))) (g.size ++ (checksum previous g ++ (g.content ++ y))) front byte changed tail (is_f.sized.four ∙ sym is_g.sized.four)
        (sym (apart previous f x) ∙ e) (sym (apart previous g y) ∙ h))

  -- the changed byte is in a latch: the entries are the same
  at_latch : (previous : List ℕ) (f g : Frame) (fs gs : List Frame) → All IsFrame (f ∷ fs) → All IsFrame (g ∷ gs)
      → (packed previous f ++ frames (checksum previous f) fs) ++ end ≡ (packed previous g ++ frames (checksum previous g) gs) ++ more → Rel (f ∷ fs) (g ∷ gs)
  at_latch previous f g fs gs are_f are_g same =
      shown.same (f ∷ fs) (g ∷ gs) (ap contents_of (same_walk previous (relatched g.latch g.second f ∷ fs) (g ∷ gs) end more
      (All-cons IsFrame (relatched g.latch g.second f) fs (IsFrame-relatched g.latch g.second f (All-head IsFrame g gs are_g).opened (All-head IsFrame f fs are_f)) (All-tail IsFrame f fs are_f)) are_g
      (ends_shut (last_checksum previous (relatched g.latch g.second f ∷ fs)) end shut) (ends_shut (last_checksum previous (g ∷ gs)) more shut')
      (ap (λ (l : List ℕ). l ++ end) (frames-relatched previous g.latch g.second f fs) ∙ ap (λ (l : List ℕ). g.latch ∷ g.second ∷ l) same)).frames_are)

  -- One byte is changed: what is to be shown holds, if it holds where one of the files has no frames left.
  module _ (Ok : List Frame → Type 0) (rest_ok : (f : Frame) (fs : List Frame) → Ok (f ∷ fs) → Ok fs)
      (base : (previous : List ℕ) (fs gs : List Frame) (front : List ℕ) (byte changed : ℕ) (tail : List ℕ) → Ok fs → All IsFrame gs → (fs ≡ []) ⊎ (gs ≡ [])
      → frames previous fs ++ end ≡ front ++ byte ∷ tail → frames previous gs ++ more ≡ front ++ changed ∷ tail → Rel fs gs) where
    pub found : (previous : List ℕ) (fs gs : List Frame) (front : List ℕ) (byte changed : ℕ) (tail : List ℕ) → Ok fs → All IsFrame fs → All IsFrame gs
        → frames previous fs ++ end ≡ front ++ byte ∷ tail → frames previous gs ++ more ≡ front ++ changed ∷ tail → Rel fs gs
    found previous [] gs front byte changed tail ok are_f are_g e h = base previous [] gs front byte changed tail ok are_g (inl refl) e h
    found previous (f ∷ fs) [] front byte changed tail ok are_f are_g e h = base previous (f ∷ fs) [] front byte changed tail ok are_g (inr refl) e h
    found previous (f ∷ fs) (g ∷ gs) [] byte changed tail ok are_f are_g e h = at_latch previous f g fs gs are_f are_g cc
    found previous (f ∷ fs) (g ∷ gs) (c ∷ []) byte changed tail ok are_f are_g e h = at_latch previous f g fs gs are_f are_g cc
    found previous (f ∷ fs) (g ∷ gs) (c ∷ d ∷ front) byte changed tail ok are_f are_g e h =
        let before : (packed previous f ++ frames (checksum previous f) fs) ++ end ≡ front ++ byte ∷ tail = cc in
        let after : (packed previous g ++ frames (checksum previous g) gs) ++ more ≡ front ++ changed ∷ tail = cc in
        at_frame previous f g fs gs (All-head IsFrame f fs are_f) (All-head IsFrame g gs are_g) (All-tail IsFrame f fs are_f) (All-tail IsFrame g gs are_g)
        (λ d. found (checksum previous f) fs gs d.front d.byte d.changed d.tail (rest_ok f fs ok) (All-tail IsFrame f fs are_f) (All-tail IsFrame g gs are_g) d.file_is d.other_is)
        front byte changed tail
        (sym (append_assoc (packed previous f) (frames (checksum previous f) fs) end) ∙ before)
        (sym (append_assoc (packed previous g) (frames (checksum previous g) gs) more) ∙ after)

-- the entries of one begin with those of the other
abbrev Found : List Frame → List Frame → Type 0
Found fs gs = (BeginsWithEntries (entries_of fs) (entries_of gs) ⊎ BeginsWithEntries (entries_of gs) (entries_of fs)) ⊎ Collide

found_shown : IsShown Found
found_shown = record {
  same = λ fs gs same. inl (inl ([], same_entries fs gs same ∙ sym (append-nil (entries_of gs))));
  onward = onward;
  broken = λ fs gs collide. inr collide;
}
  where
    onward : (f g : Frame) (fs gs : List Frame) → f.content ≡ g.content → Found fs gs → Found (f ∷ fs) (g ∷ gs)
    onward f g fs gs same (inl (inl both)) = inl (inl (both.0, λ i. entry_in (same i) ∷ both.1 i))
    onward f g fs gs same (inl (inr both)) = inl (inr (both.0, λ i. entry_in (sym same i) ∷ both.1 i))
    onward f g fs gs same (inr collide) = inr collide

none_left : (fs gs : List Frame) → (fs ≡ []) ⊎ (gs ≡ []) → Found fs gs
none_left fs gs (inl none) = inl (inr (entries_of gs, ap (λ (l : List Frame). entries_of l ++ entries_of gs) (sym none)))
none_left fs gs (inr none) = inl (inl (entries_of fs, ap (λ (l : List Frame). entries_of l ++ entries_of fs) (sym none)))

pub no_entry_is_another : NoEntryIsAnother
no_entry_is_another file other entries others (inl a) (inl b) d =
    named (found Found found_shown a.end b.end a.is.shut b.is.shut (λ fs. ⊤) (λ f fs ok. tt) (λ previous fs gs front byte changed tail ok are_g none e h. none_left fs gs none)
    first_checksum a.fs b.fs d.front d.byte d.changed d.tail tt a.is.whole b.is.whole (sym a.is.parts ∙ d.file_is) (sym b.is.parts ∙ d.other_is))
  where
    named : Found a.fs b.fs → (BeginsWithEntries entries others ⊎ BeginsWithEntries others entries) ⊎ Collide
    named (inl (inl both)) = inl (inl (both.0, a.same ∙ both.1 ∙ ap (λ (l : List (List ℕ)). l ++ both.0) (sym b.same)))
    named (inl (inr both)) = inl (inr (both.0, b.same ∙ both.1 ∙ ap (λ (l : List (List ℕ)). l ++ both.0) (sym a.same)))
    named (inr collide) = inr collide
no_entry_is_another file other entries others (inr a) b d = inl (inr (others, ap (λ (l : List (List ℕ)). l ++ others) (sym a.1)))
no_entry_is_another file other entries others (inl a) (inr b) d = inl (inl (entries, ap (λ (l : List (List ℕ)). l ++ entries) (sym b.1)))

-- of journals that are cut
cut_journals : (file tail : List ℕ) (entries others : List (List ℕ)) → IsJournal (file ++ tail) entries → IsJournal file others → BeginsWithEntries entries others
cut_journals file tail entries others a b =
    let on = further first_checksum b.fs a.fs a.end (b.end ++ tail) b.is.whole a.is.whole (ends_shut (last_checksum first_checksum a.fs) a.end a.is.shut)
    (sym (append_assoc (frames first_checksum b.fs) b.end tail) ∙ ap (λ (l : List ℕ). l ++ tail) (sym b.is.parts) ∙ a.is.parts) in
    (entries_of on.others, a.same ∙ ap entries_of on.same ∙ map-append (λ (f : Frame). entry_in f.content) b.fs on.others ∙ ap (λ (l : List (List ℕ)). l ++ entries_of on.others) (sym b.same))

pub cut_files_keep_the_first : CutFilesKeepTheFirst
cut_files_keep_the_first file tail entries others (inl a) (inl b) = cut_journals file tail entries others a b
cut_files_keep_the_first file tail entries others a (inr b) = (entries, ap (λ (l : List (List ℕ)). l ++ entries) (sym b.1))
cut_files_keep_the_first file tail entries others (inr a) (inl b) =
    let short : length file ≤ 2 = omega (arith, a.0, length-append file tail) in
    (entries, ap (λ (l : List (List ℕ)). l ++ entries) (sym (none_framed file others b short)))
