-- What files stand for that a crash within an append leaves.
use Rattle.std.proofs.Common.{◌≡◌, ◌⊎◌, inl, inr, ℕ, List, [], ◌∷◌, ◌++◌, refl, sym, ◌∙◌, ap, subst, arith, append_assoc}
use Rattle.std.specs.Prelude.{All}
use Rattle.std.proofs.lemmas.Bool.{cases_eq}
use Rattle.std.proofs.lemmas.List.{map-append}
use Rattle.std.proofs.lemmas.List.Elements.{All-append, All-cons, All-head, All-tail}
use Rattle.desk_journal.specs.Frames.{AreShut, Frame, IsFrame, IsShut, StandsFor, checksum, first_checksum, last_checksum, packed, frames, entries_of}
use Rattle.desk_journal.specs.Stamps.{entry_in}
use Rattle.desk_journal.specs.Disks.{IsLonger, IsAround}
use Rattle.desk_journal.specs.Left.{BeginsWith}
use Rattle.desk_journal.proofs.FrameLemmas.{IsFrame-relatched, frames-append, frames-relatched, relatched}

-- two bytes are a shut latch or aren't
pub decided_latch : (latch second : ℕ) → AreShut latch second ⊎ (AreShut latch second → ⊥)
decided_latch latch second =
    elim (cases_eq latch 45) [
      | inl one ↦ elim (cases_eq second 45) [ inl two ↦ inl (one, two) | inr other ↦ inr (λ shut. other shut.1) ]
      | inr other ↦ inr (λ shut. other shut.0)
    ]

pub stands : (file : List ℕ) (fs : List Frame) (end : List ℕ) → All IsFrame fs → file ≡ frames first_checksum fs ++ end → IsShut end → StandsFor file (entries_of fs)
stands file fs end whole parts shut = inl (record { fs = fs; end = end; is = record { whole = whole; parts = parts; shut = shut }; same = refl })

-- a file that begins with frames begins with the first of them
pub begins_first : (file : List ℕ) (fs gs : List Frame) → BeginsWith file (fs ++ gs) → BeginsWith file fs
begins_first file fs gs begins =
    (frames (last_checksum first_checksum fs) gs ++ begins.0, begins.1 ∙ ap (λ (l : List ℕ). l ++ begins.0) (frames-append first_checksum fs gs) ∙ append_assoc (frames first_checksum fs) (frames (last_checksum first_checksum fs) gs) begins.0)

-- what is left after the frames
pub begins_longer : (fs : List Frame) (file : List ℕ) → IsLonger (frames first_checksum fs ++ 45 ∷ 45 ∷ []) file → BeginsWith file fs
begins_longer fs file longer = (45 ∷ 45 ∷ longer.0, longer.1 ∙ append_assoc (frames first_checksum fs) (45 ∷ 45 ∷ []) longer.0)

pub begins_around : (fs : List Frame) (behind file : List ℕ) → IsAround (frames first_checksum fs) behind file → BeginsWith file fs
begins_around fs behind file around = (around.0 ∷ around.1 ∷ behind, around.2)

pub left_begins : (fs : List Frame) (behind file : List ℕ) → IsLonger (frames first_checksum fs ++ 45 ∷ 45 ∷ []) file ⊎ IsAround (frames first_checksum fs) behind file → BeginsWith file fs
left_begins fs behind file (inl longer) = begins_longer fs file longer
left_begins fs behind file (inr around) = begins_around fs behind file around

module _ (fs : List Frame) (whole : All IsFrame fs) where
  -- bytes after the shut latch
  pub stands_longer : (file : List ℕ) → IsLonger (frames first_checksum fs ++ 45 ∷ 45 ∷ []) file → StandsFor file (entries_of fs)
  stands_longer file longer =
      stands file fs (45 ∷ 45 ∷ longer.0) whole (longer.1 ∙ append_assoc (frames first_checksum fs) (45 ∷ 45 ∷ []) longer.0) (refl, refl)

  -- a batch after another latch than the open one
  other_latch : (gs : List Frame) → All IsFrame gs → (behind : List ℕ) → 43 ∷ 43 ∷ behind ≡ frames (last_checksum first_checksum fs) gs ++ 45 ∷ 45 ∷ []
      → (file : List ℕ) (latch second : ℕ) → (AreShut latch second → ⊥) → file ≡ frames first_checksum fs ++ latch ∷ second ∷ behind → StandsFor file (entries_of (fs ++ gs))
  other_latch [] whole_more behind packed_is file latch second opened parts = let e : ◌≡◌ {A = ℕ} 43 45 = cc in absurd (omega (arith, e))
  other_latch (g ∷ gs) whole_more behind packed_is file latch second opened parts =
      let sum : List ℕ = last_checksum first_checksum fs in
      let h : Frame = relatched latch second g in
      let behind_is : behind ≡ (packed sum g ++ frames (checksum sum g) gs) ++ 45 ∷ 45 ∷ [] = cc in
      let same : entries_of (fs ++ h ∷ gs) ≡ entries_of (fs ++ g ∷ gs) = map-append (λ (f : Frame). entry_in f.content) fs (h ∷ gs) ∙ sym (map-append (λ (f : Frame). entry_in f.content) fs (g ∷ gs)) in
      let here : file ≡ frames first_checksum (fs ++ h ∷ gs) ++ 45 ∷ 45 ∷ [] =
      parts ∙ ap (λ (l : List ℕ). frames first_checksum fs ++ latch ∷ second ∷ l) behind_is
      ∙ ap (λ (l : List ℕ). frames first_checksum fs ++ (l ++ 45 ∷ 45 ∷ [])) (sym (frames-relatched sum latch second g gs))
      ∙ sym (append_assoc (frames first_checksum fs) (frames sum (h ∷ gs)) (45 ∷ 45 ∷ []))
      ∙ ap (λ (l : List ℕ). l ++ 45 ∷ 45 ∷ []) (sym (frames-append first_checksum fs (h ∷ gs))) in
      subst (StandsFor file) same
      (stands file (fs ++ h ∷ gs) (45 ∷ 45 ∷ [])
      (All-append IsFrame fs (h ∷ gs) whole (All-cons IsFrame h gs (IsFrame-relatched latch second g opened (All-head IsFrame g gs whole_more)) (All-tail IsFrame g gs whole_more))) here (refl, refl))

  module _ (gs : List Frame) (whole_more : All IsFrame gs) (behind : List ℕ) (packed_is : 43 ∷ 43 ∷ behind ≡ frames (last_checksum first_checksum fs) gs ++ 45 ∷ 45 ∷ []) where
    pub opened : frames first_checksum fs ++ 43 ∷ 43 ∷ behind ≡ frames first_checksum (fs ++ gs) ++ 45 ∷ 45 ∷ []
    opened =
        ap (λ (l : List ℕ). frames first_checksum fs ++ l) packed_is
        ∙ sym (append_assoc (frames first_checksum fs) (frames (last_checksum first_checksum fs) gs) (45 ∷ 45 ∷ []))
        ∙ ap (λ (l : List ℕ). l ++ 45 ∷ 45 ∷ []) (sym (frames-append first_checksum fs gs))

    -- whatever the latch is, all of the batch counts or none
    pub stands_around : (file : List ℕ) → IsAround (frames first_checksum fs) behind file → StandsFor file (entries_of fs) ⊎ StandsFor file (entries_of (fs ++ gs))
    stands_around file around =
        elim (decided_latch around.0 around.1) [
          | inl shut ↦ inl (stands file fs (around.0 ∷ around.1 ∷ behind) whole around.2 shut)
          | inr other ↦ inr (other_latch gs whole_more behind packed_is file around.0 around.1 other around.2)
        ]
