-- A journal's end in its file: where the last entry's checksum is, and what comes after the end.
use Rattle.std.proofs.Common.{◌≡◌, ℕ, ◌+◌, ◌-◌, ◌<◌, ◌≤◌, List, [], ◌∷◌, ◌++◌, length, take, drop, refl, sym, ◌∙◌, ap, arith, append_assoc, length-append}
use Rattle.std.specs.Prelude.{All, Result, Ok, Err, IfOk, OnOk}
use Rattle.std.proofs.lemmas.List.{drop_at, drop-drop}
use Rattle.std.proofs.lemmas.List.Elements.{All-head, All-tail}
use Rattle.desk_journal.specs.Faults.{HasDiskFault, HasFileFault}
use Rattle.desk_journal.specs.Frames.{Frame, IsFrame, checksum, first_checksum, last_checksum, packed, frames, size_of_last}
use Rattle.desk_journal.specs.Left.{BeginsWith, IsEndOf}
use Rattle.desk_journal.specs.Reading.{latched}
use Rattle.desk_journal.specs.declared.fault.JournalFault.{JournalFault}
use Rattle.desk_journal.specs.declared.fault.JournalFault.TheVariants.{Damaged, Older, Full, NoEntries, Taken, Changed, Read, Write, Sync, OutOfMemory}
use Rattle.desk_journal.specs.declared.journal_end.JournalEnd.{JournalEnd}
use Rattle.desk_journal.proofs.FrameLemmas.{laid}

-- a frame and what comes after it
split_frames : (previous : List ℕ) (f : Frame) (fs : List Frame) (rest : List ℕ) → frames previous (f ∷ fs) ++ rest ≡ latched previous f ++ (frames (checksum previous f) fs ++ rest)
split_frames previous f fs rest = ap (λ (l : List ℕ). f.latch ∷ f.second ∷ l) (append_assoc (packed previous f) (frames (checksum previous f) fs) rest)

length-latched : (previous : List ℕ) (f : Frame) → IsFrame f → length (latched previous f) ≡ 42 + length f.content
length-latched previous f is = omega (arith, (laid previous f [] (packed previous f ++ []) is.sized refl).long, length-append (packed previous f) [])

-- the last checksum and content fit into the frames
last_fits : (previous : List ℕ) (earlier : ℕ) (f : Frame) (fs : List Frame) → All IsFrame (f ∷ fs) → 42 + size_of_last earlier (f ∷ fs) ≤ length (frames previous (f ∷ fs))
last_fits previous earlier f [] whole = omega (arith, length-latched previous f (All-head IsFrame f [] whole), length-append (packed previous f) [])
last_fits previous earlier f (g ∷ gs) whole =
    omega (
      arith,
      last_fits (checksum previous f) (length f.content) g gs (All-tail IsFrame f (g ∷ gs) whole),
      length-append (packed previous f) (frames (checksum previous f) (g ∷ gs)),
    )

-- and the checksum is there
sum_there : (previous : List ℕ) (earlier : ℕ) (f : Frame) (fs : List Frame) (rest : List ℕ) (at : ℕ) → All IsFrame (f ∷ fs) → at + 32 + size_of_last earlier (f ∷ fs) ≡ length (frames previous (f ∷ fs))
    → take 32 (drop at (frames previous (f ∷ fs) ++ rest)) ≡ last_checksum previous (f ∷ fs)
sum_there previous earlier f [] rest at whole place =
    ap (λ (n : ℕ). take 32 (drop n (frames previous (f ∷ []) ++ rest))) ten
    ∙ ap (λ (l : List ℕ). take 32 (drop 10 l)) (split_frames previous f [] rest)
    ∙ ap (λ (l : List ℕ). take 32 l) (sym (drop-drop 4 4 (packed previous f ++ rest)))
    ∙ (laid previous f rest (packed previous f ++ rest) (All-head IsFrame f [] whole).sized refl).sum
  where
    ten : at ≡ 10
    ten = omega (arith, place, length-latched previous f (All-head IsFrame f [] whole), length-append (packed previous f) [])
sum_there previous earlier f (g ∷ gs) rest at whole place =
    by (at - length (latched previous f)) (omega (arith, long, fits)) (λ n n_is. sum_there (checksum previous f) (length f.content) g gs rest n tail n_is)
  where
    next : List ℕ
    next = checksum previous f

    tail : All IsFrame (g ∷ gs)
    tail = All-tail IsFrame f (g ∷ gs) whole

    fits : 42 + size_of_last (length f.content) (g ∷ gs) ≤ length (frames next (g ∷ gs))
    fits = last_fits next (length f.content) g gs tail

    long : at + 32 + size_of_last (length f.content) (g ∷ gs) ≡ length (latched previous f) + length (frames next (g ∷ gs))
    long = omega (arith, place, length-append (packed previous f) (frames next (g ∷ gs)))

    by : (n : ℕ) → at ≡ length (latched previous f) + n
        → ((k : ℕ) → k + 32 + size_of_last (length f.content) (g ∷ gs) ≡ length (frames next (g ∷ gs)) → take 32 (drop k (frames next (g ∷ gs) ++ rest)) ≡ last_checksum next (g ∷ gs))
        → take 32 (drop at (frames previous (f ∷ g ∷ gs) ++ rest)) ≡ last_checksum next (g ∷ gs)
    by n at_is there =
        ap (λ (k : ℕ). take 32 (drop k (frames previous (f ∷ g ∷ gs) ++ rest))) at_is
        ∙ ap (λ (l : List ℕ). take 32 (drop (length (latched previous f) + n) l)) (split_frames previous f (g ∷ gs) rest)
        ∙ ap (λ (l : List ℕ). take 32 l) (sym (drop-drop n (length (latched previous f)) (latched previous f ++ (frames next (g ∷ gs) ++ rest)))
        ∙ ap (drop n) (drop_at (latched previous f) (frames next (g ∷ gs) ++ rest) (length (latched previous f)) refl))
        ∙ there n (omega (arith, long, at_is))

module _ (file : List ℕ) (fs : List Frame) (end : JournalEnd) (ends : IsEndOf fs end) where
  -- a journal with entries is longer than a latch
  pub ends_after : 0 < length fs → 32 + end.last_size ≤ end.place
  ends_after some = by fs ends.whole some (omega (arith, ends.place)) ends.last_size
    where
      by : (gs : List Frame) → All IsFrame gs → 0 < length gs → length (frames first_checksum gs) ≡ end.place → end.last_size ≡ size_of_last 0 gs → 32 + end.last_size ≤ end.place
      by [] whole none place size = omega (arith, none)
      by (g ∷ gs) whole more place size = omega (arith, last_fits first_checksum 0 g gs whole, place, size)

  pub begun_after : 0 < length fs → (bytes : List ℕ) → 2 < length (frames first_checksum fs ++ bytes)
  begun_after some bytes = omega (arith, ends_after some, ends.place, length-append (frames first_checksum fs) bytes)

  module _ (begins : BeginsWith file fs) where
    pub begins_long : end.place ≤ length file
    begins_long = omega (arith, ends.place, ap length begins.1, length-append (frames first_checksum fs) begins.0)

    pub last_there : 0 < length fs → (at : ℕ) → at + 32 + end.last_size ≡ end.place → take 32 (drop at file) ≡ end.last
    last_there some at at_is = by fs ends.whole some (sym ends.place) ends.last_size begins.1 ∙ sym ends.last
      where
        by : (gs : List Frame) → All IsFrame gs → 0 < length gs → end.place ≡ length (frames first_checksum gs) → end.last_size ≡ size_of_last 0 gs → file ≡ frames first_checksum gs ++ begins.0
            → take 32 (drop at file) ≡ last_checksum first_checksum gs
        by [] whole none place size parts = absurd (omega (arith, none))
        by (g ∷ gs) whole more place size parts = ap (λ (l : List ℕ). take 32 (drop at l)) parts ∙ sum_there first_checksum 0 g gs begins.0 at whole (omega (arith, at_is, place, size))

    -- the file up to the end, and what comes after it
    pub parts_there : (behind : List ℕ) → behind ≡ drop end.place file → frames first_checksum fs ++ behind ≡ file
    parts_there behind behind_is =
        ap (λ (l : List ℕ). frames first_checksum fs ++ l) (behind_is ∙ ap (drop end.place) begins.1 ∙ drop_at (frames first_checksum fs) begins.0 end.place ends.place)
        ∙ sym begins.1

-- what comes after the last entry, of bytes that begin with its checksum
pub behind_there : (file bytes behind : List ℕ) (at size place : ℕ) → at + 32 + size ≡ place → bytes ≡ drop at file → behind ≡ drop (32 + size) bytes → behind ≡ drop place file
behind_there file bytes behind at size place at_is bytes_are behind_is =
    behind_is ∙ ap (drop (32 + size)) bytes_are ∙ drop-drop (32 + size) at file ∙ ap (λ (n : ℕ). drop n file) (omega (arith, at_is))

-- why bytes aren't read is why a file isn't read on a disk
pub file_to_disk : (before after : ℕ) (file : List ℕ) (fault : JournalFault) → HasFileFault file fault → HasDiskFault before after file fault
file_to_disk before after file (Damaged number) has = has
file_to_disk before after file Older has = has
file_to_disk before after file Full has = has
file_to_disk before after file NoEntries has = absurd has
file_to_disk before after file Taken has = absurd has
file_to_disk before after file Changed has = absurd has
file_to_disk before after file Read has = absurd has
file_to_disk before after file Write has = absurd has
file_to_disk before after file Sync has = absurd has
file_to_disk before after file OutOfMemory has = has

-- a result that comes only on a condition
pub if_ok_given : {T E : Type 0} (result : Result T E) (A : Type 0) (P : T → Type 0) → (A → IfOk result P) → IfOk result (λ value. A → P value)
if_ok_given (Ok value) A P given = given
if_ok_given (Err error) A P given = tt

-- two facts of one result
pub if_ok_both : {T E : Type 0} (result : Result T E) (P : T → Type 0) (Q : Type 0) → IfOk result P → OnOk result Q → IfOk result (λ value. P value × Q)
if_ok_both (Ok value) P Q one other = (one, other)
if_ok_both (Err error) P Q one other = tt
