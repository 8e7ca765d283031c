-- A file stands for at most one list of entries.
use Rattle.std.proofs.Common.{◌≡◌, ◌≤◌, inl, inr, ℕ, List, [], ◌∷◌, ◌++◌, length, refl, sym, ◌∙◌, ap, subst, arith, append_assoc, length-append}
use Rattle.std.specs.Prelude.{All}
use Rattle.std.proofs.lemmas.List.{append-nil}
use Rattle.std.proofs.lemmas.List.Elements.{All-head, All-tail}
use Rattle.desk_journal.specs.Frames.{Frame, HaveOneListOfStamps, IsFrame, IsJournal, IsShut, IsStampedJournal, StandForOneList, StandsStamped, stamps_of, checksum, first_checksum, last_checksum, packed, frames, entries_of}
use Rattle.desk_journal.specs.Stamps.{StampView}
use Rattle.desk_journal.specs.Reading.{HasNoFrame}
use Rattle.desk_journal.proofs.FrameLemmas.{same_frame, SameFrame}

-- no frame is here
pub record Ends (previous end : List ℕ) : Type 0 where
  pub none : HasNoFrame previous end

pub ends_shut : (previous end : List ℕ) → IsShut end → Ends previous end
ends_shut previous end shut = record { none = λ f rest is e. is.opened (subst IsShut e shut) }

-- frames that a file has are the first of those that it has up to where no frame follows
pub record Further (previous : List ℕ) (fs gs : List Frame) (end more : List ℕ) : Type 0 where
  pub others : List Frame
  pub whole : All IsFrame others
  pub same : gs ≡ fs ++ others
  pub rest : more ≡ frames (last_checksum previous fs) others ++ end

pub further : (previous : List ℕ) (fs gs : List Frame) (end more : List ℕ) → All IsFrame fs → All IsFrame gs → Ends (last_checksum previous gs) end
    → frames previous fs ++ more ≡ frames previous gs ++ end → Further previous fs gs end more
further previous [] gs end more are_f are_g ends e = record { others = gs; whole = are_g; same = refl; rest = e }
further previous (f ∷ fs) [] end more are_f are_g ends e =
    absurd (ends.none f (frames (checksum previous f) fs ++ more) (All-head IsFrame f fs are_f) (sym e ∙ ap (λ (l : List ℕ). f.latch ∷ f.second ∷ l) (append_assoc (packed previous f) (frames (checksum previous f) fs) more)))
further previous (f ∷ fs) (g ∷ gs) end more are_f are_g ends e =
    let latch : f.latch ≡ g.latch = cc in
    let second : f.second ≡ g.second = cc in
    let behind : (packed previous f ++ frames (checksum previous f) fs) ++ more ≡ (packed previous g ++ frames (checksum previous g) gs) ++ end = cc in
    let one : SameFrame f g (frames (checksum previous f) fs ++ more) (frames (checksum previous g) gs ++ end) =
    same_frame previous f g (frames (checksum previous f) fs ++ more) (frames (checksum previous g) gs ++ end) (All-head IsFrame f fs are_f).sized (All-head IsFrame g gs are_g).sized latch second
    (sym (append_assoc (packed previous f) (frames (checksum previous f) fs) more) ∙ behind ∙ append_assoc (packed previous g) (frames (checksum previous g) gs) end) in
    let Step : Frame → Type 0 = λ h. frames (checksum previous f) fs ++ more ≡ frames (checksum previous h) gs ++ end → Ends (last_checksum (checksum previous h) gs) end → Further previous (f ∷ fs) (h ∷ gs) end more in
    subst Step one.frame (λ rest ends'.
    let next = further (checksum previous f) fs gs end more (All-tail IsFrame f fs are_f) (All-tail IsFrame g gs are_g) ends' rest in
    record { others = next.others; whole = next.whole; same = ap (λ (l : List Frame). f ∷ l) next.same; rest = next.rest }) one.rest ends

-- where no frame follows either, the frames and the ends are the same
pub record SameWalk (fs gs : List Frame) (end more : List ℕ) : Type 0 where
  pub frames_are : fs ≡ gs
  pub ends_are : end ≡ more

pub same_walk : (previous : List ℕ) (fs gs : List Frame) (end more : List ℕ) → All IsFrame fs → All IsFrame gs → Ends (last_checksum previous fs) end → Ends (last_checksum previous gs) more
    → frames previous fs ++ end ≡ frames previous gs ++ more → SameWalk fs gs end more
same_walk previous fs gs end more are_f are_g ends_f ends_g e =
    let on = further previous fs gs more end are_f are_g ends_g e in
    nothing on.others on.whole on.same on.rest
  where
    nothing : (hs : List Frame) → All IsFrame hs → gs ≡ fs ++ hs → end ≡ frames (last_checksum previous fs) hs ++ more → SameWalk fs gs end more
    nothing [] whole same rest = record { frames_are = sym (same ∙ append-nil fs); ends_are = rest }
    nothing (h ∷ hs) whole same rest =
        absurd (ends_f.none h (frames (checksum (last_checksum previous fs) h) hs ++ more) (All-head IsFrame h hs whole)
        (rest ∙ ap (λ (l : List ℕ). h.latch ∷ h.second ∷ l) (append_assoc (packed (last_checksum previous fs) h) (frames (checksum (last_checksum previous fs) h) hs) more)))

-- a file of at most two bytes has no frames
pub none_framed : (file : List ℕ) (entries : List (List ℕ)) → IsJournal file entries → length file ≤ 2 → entries ≡ []
none_framed file entries a short = by a.fs (ap length a.is.parts) a.same
  where
    two : (end : List ℕ) → IsShut end → 2 ≤ length end
    two [] shut = absurd shut
    two (x ∷ []) shut = absurd shut
    two (x ∷ y ∷ end) shut = omega arith

    by : (fs : List Frame) → length file ≡ length (frames first_checksum fs ++ a.end) → entries ≡ entries_of fs → entries ≡ []
    by [] long same = same
    by (f ∷ fs) long same =
        absurd (omega (arith, short, long, two a.end a.is.shut, length-append (packed first_checksum f ++ frames (checksum first_checksum f) fs) a.end))

one_journal : (file : List ℕ) (some others : List (List ℕ)) → IsJournal file some → IsJournal file others → some ≡ others
one_journal file some others a b =
    let walk = same_walk first_checksum a.fs b.fs a.end b.end a.is.whole b.is.whole (ends_shut (last_checksum first_checksum a.fs) a.end a.is.shut) (ends_shut (last_checksum first_checksum b.fs) b.end b.is.shut) (sym a.is.parts ∙ b.is.parts) in
    a.same ∙ ap entries_of walk.frames_are ∙ sym b.same

pub one_list : StandForOneList
one_list file some others (inl a) (inl b) = one_journal file some others a b
one_list file some others (inl a) (inr b) = none_framed file some a b.0 ∙ sym b.1
one_list file some others (inr a) (inl b) = a.1 ∙ sym (none_framed file others b a.0)
one_list file some others (inr a) (inr b) = a.1 ∙ sym b.1

-- nor has it stamps
none_stamped : (file : List ℕ) (entries : List (List ℕ)) (stamps : List StampView) → IsStampedJournal file entries stamps → length file ≤ 2 → stamps ≡ []
none_stamped file entries stamps a short = a.stamped ∙ by a.fs (none_framed file (entries_of a.fs) (record { fs = a.fs; end = a.end; is = a.is; same = refl }) short)
  where
    by : (fs : List Frame) → entries_of fs ≡ [] → stamps_of fs ≡ []
    by [] none = refl
    by (f ∷ fs) none = cc

one_stamped : (file : List ℕ) (e f : List (List ℕ)) (some others : List StampView) → IsStampedJournal file e some → IsStampedJournal file f others → some ≡ others
one_stamped file e f some others a b =
    let walk = same_walk first_checksum a.fs b.fs a.end b.end a.is.whole b.is.whole (ends_shut (last_checksum first_checksum a.fs) a.end a.is.shut) (ends_shut (last_checksum first_checksum b.fs) b.end b.is.shut) (sym a.is.parts ∙ b.is.parts) in
    a.stamped ∙ ap stamps_of walk.frames_are ∙ sym b.stamped

either_stamped : (file : List ℕ) (e f : List (List ℕ)) (some others : List StampView) → StandsStamped file e some → StandsStamped file f others → some ≡ others
either_stamped file e f some others (inl a) (inl b) = one_stamped file e f some others a b
either_stamped file e f some others (inl a) (inr b) = none_stamped file e some a b.0.0 ∙ sym b.1
either_stamped file e f some others (inr a) (inl b) = a.1 ∙ sym (none_stamped file f others b a.0.0)
either_stamped file e f some others (inr a) (inr b) = a.1 ∙ sym b.1

pub one_list_of_stamps : HaveOneListOfStamps
one_list_of_stamps file some others a b = either_stamped file a.0 b.0 some others a.1 b.1
