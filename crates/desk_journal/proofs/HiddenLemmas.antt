-- No byte that changes hides an entry of a journal that a session left.
use Rattle.std.proofs.Common.{◌≡◌, ◌⊎◌, inl, inr, ℕ, List, [], ◌∷◌, ◌++◌, length, refl, sym, ◌∙◌, ap, arith, length-append}
use Rattle.std.specs.Prelude.{All, map}
use Rattle.std.proofs.lemmas.List.Elements.{All-head, All-tail}
use Rattle.desk_journal.specs.Damage.{Collide, IsOpen, NoByteChangesAStamp, NoByteHidesAnEntry}
use Rattle.desk_journal.specs.Frames.{Frame, IsFrame, IsShut, StandsFor, StandsStamped, checksum, first_checksum, frames, entries_of, packed, stamps_of}
use Rattle.desk_journal.specs.Stamps.{StampView, stamp_in}
use Rattle.desk_journal.proofs.DamageLemmas.{IsShown, contents_of, found, same_entries}

-- both have the same contents
abbrev Same : List Frame → List Frame → Type 0
Same fs gs = (contents_of fs ≡ contents_of gs) ⊎ Collide

same_shown : IsShown Same
same_shown = record {
  same = λ fs gs same. inl same;
  onward = onward;
  broken = λ fs gs collide. inr collide;
}
  where
    onward : (f g : Frame) (fs gs : List Frame) → f.content ≡ g.content → Same fs gs → Same (f ∷ fs) (g ∷ gs)
    onward f g fs gs same (inl both) = inl (λ i. same i ∷ both i)
    onward f g fs gs same (inr collide) = inr collide

stamps_in : (fs : List Frame) → stamps_of fs ≡ map stamp_in (contents_of fs)
stamps_in [] = refl
stamps_in (f ∷ fs) = λ i. stamp_in f.content ∷ stamps_in fs i

same_stamps : (fs gs : List Frame) → contents_of fs ≡ contents_of gs → stamps_of fs ≡ stamps_of gs
same_stamps fs gs same = stamps_in fs ∙ ap (map stamp_in) same ∙ sym (stamps_in gs)

-- an open latch and a shut one differ in two bytes
two_apart : (x y l m : List ℕ) (front : List ℕ) (byte changed : ℕ) (tail : List ℕ) → 43 ∷ 43 ∷ x ≡ front ++ byte ∷ tail → 45 ∷ 45 ∷ y ≡ front ++ changed ∷ tail → ⊥
two_apart x y l m [] byte changed tail e h = let second : ◌≡◌ {A = ℕ} 43 45 = cc in omega (arith, second)
two_apart x y l m (c ∷ front) byte changed tail e h = let first : ◌≡◌ {A = ℕ} 43 45 = cc in omega (arith, first)

module _ (more : List ℕ) (shut' : IsShut more) where
  -- the other file has frames where this one ends: it is longer
  no_more : (previous : List ℕ) (g : Frame) (gs : List Frame) (front : List ℕ) (byte changed : ℕ) (tail : List ℕ) → IsFrame g
      → 45 ∷ 45 ∷ [] ≡ front ++ byte ∷ tail → frames previous (g ∷ gs) ++ more ≡ front ++ changed ∷ tail → ⊥
  no_more previous g gs front byte changed tail is e h =
      omega (
        arith,
        ap length e,
        ap length h,
        length-append front (byte ∷ tail),
        length-append front (changed ∷ tail),
        length-append (packed previous g ++ frames (checksum previous g) gs) more,
        length-append (packed previous g) (frames (checksum previous g) gs),
        length-append g.durable (g.size ++ (checksum previous g ++ g.content)),
        is.sized.four,
      )

  -- it ends where this one has frames
  no_fewer : (previous : List ℕ) (f : Frame) (fs : List Frame) (front : List ℕ) (byte changed : ℕ) (tail : List ℕ) → IsOpen f
      → frames previous (f ∷ fs) ++ 45 ∷ 45 ∷ [] ≡ front ++ byte ∷ tail → more ≡ front ++ changed ∷ tail → ⊥
  no_fewer previous f fs front byte changed tail is e h = by more shut' h
    where
      rest : List ℕ
      rest = (packed previous f ++ frames (checksum previous f) fs) ++ 45 ∷ 45 ∷ []

      opened : 43 ∷ 43 ∷ rest ≡ front ++ byte ∷ tail
      opened = (λ i. sym is.0 i ∷ sym is.1 i ∷ rest) ∙ e

      by : (m : List ℕ) → IsShut m → m ≡ front ++ changed ∷ tail → ⊥
      by [] shut h = absurd shut
      by (a ∷ []) shut h = absurd shut
      by (a ∷ b ∷ m) shut h = two_apart rest m [] [] front byte changed tail opened ((λ i. sym shut.0 i ∷ sym shut.1 i ∷ m) ∙ h)

  base : (previous : List ℕ) (fs gs : List Frame) (front : List ℕ) (byte changed : ℕ) (tail : List ℕ) → All IsOpen fs → All IsFrame gs → (fs ≡ []) ⊎ (gs ≡ [])
      → frames previous fs ++ 45 ∷ 45 ∷ [] ≡ front ++ byte ∷ tail → frames previous gs ++ more ≡ front ++ changed ∷ tail → Same fs gs
  base previous [] [] front byte changed tail ok are_g none e h = inl refl
  base previous [] (g ∷ gs) front byte changed tail ok are_g none e h = absurd (no_more previous g gs front byte changed tail (All-head IsFrame g gs are_g) e h)
  base previous (f ∷ fs) [] front byte changed tail ok are_g none e h = absurd (no_fewer previous f fs front byte changed tail (All-head IsOpen f fs ok) e h)
  base previous (f ∷ fs) (g ∷ gs) front byte changed tail ok are_g (inl none) e h = cc none
  base previous (f ∷ fs) (g ∷ gs) front byte changed tail ok are_g (inr none) e h = cc none

pub no_byte_changes_a_stamp : NoByteChangesAStamp
no_byte_changes_a_stamp file other entries others stamps other_stamps (settled, stamps_are) (inl b) d =
    named (found Same same_shown (45 ∷ 45 ∷ []) b.end (refl, refl) b.is.shut (All IsOpen) (All-tail IsOpen) (base b.end b.is.shut)
    first_checksum settled.fs b.fs d.front d.byte d.changed d.tail settled.latches settled.whole b.is.whole (sym settled.parts ∙ d.file_is) (sym b.is.parts ∙ d.other_is))
  where
    named : Same settled.fs b.fs → ((others ≡ entries) × (other_stamps ≡ stamps)) ⊎ Collide
    named (inl same) = inl (
      b.same ∙ sym (same_entries settled.fs b.fs same) ∙ sym settled.same,
      b.stamped ∙ sym (same_stamps settled.fs b.fs same) ∙ sym stamps_are,
    )
    named (inr collide) = inr collide
no_byte_changes_a_stamp file other entries others stamps other_stamps (settled, stamps_are) (inr b) d =
    let none = by settled.fs (ap length settled.parts) in
    inl (b.0.1 ∙ sym (settled.same ∙ ap entries_of none), b.1 ∙ sym (stamps_are ∙ ap stamps_of none))
  where
    as_long : length file ≡ length other
    as_long = omega (arith, ap length d.file_is, ap length d.other_is, length-append d.front (d.byte ∷ d.tail), length-append d.front (d.changed ∷ d.tail))

    by : (fs : List Frame) → length file ≡ length (frames first_checksum fs ++ 45 ∷ 45 ∷ []) → fs ≡ []
    by [] long = refl
    by (f ∷ fs) long =
        absurd (omega (arith, as_long, long, b.0.0, length-append (packed first_checksum f ++ frames (checksum first_checksum f) fs) (45 ∷ 45 ∷ [])))

-- a file that stands for entries has a stamp for each
stamped : (file : List ℕ) (entries : List (List ℕ)) → StandsFor file entries → (stamps : List StampView) × StandsStamped file entries stamps
stamped file entries (inl a) = (stamps_of a.fs, inl (record { fs = a.fs; end = a.end; is = a.is; same = a.same; stamped = refl }))
stamped file entries (inr a) = ([], inr (a, refl))

pub no_byte_hides_an_entry : NoByteHidesAnEntry
no_byte_hides_an_entry file other entries others settled stands d =
    let (stamps, has) = stamped other others stands in
    elim (no_byte_changes_a_stamp file other entries others (stamps_of settled.fs) stamps (settled, refl) has d) [ inl same ↦ inl same.0 | inr collide ↦ inr collide ]
