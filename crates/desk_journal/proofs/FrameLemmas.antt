-- Frames of lists that are joined, the bytes of a frame, and where they end.
use Rattle.std.proofs.Common.{◌≡◌, ℕ, ◌+◌, ◌<◌, ◌^◌, List, [], ◌∷◌, ◌++◌, length, take, drop, refl, sym, ◌∙◌, ap, subst, arith, append_assoc, length-append}
use Rattle.std.proofs.lemmas.List.{take_at, drop_at, append-nil}
use Rattle.std.proofs.lemmas.Nat.{from_be_bytes-to_be_bytes_4}
use Rattle.std.specs.Int.{w32, to_be_bytes}
use Rattle.sha2.proofs.Facts256.{length-sha256}
use Rattle.desk_journal.specs.Frames.{AreShut, Frame, IsFrame, IsSized, number_of, frame_of, checksum, packed, frames, last_checksum, size_of_last}
use Rattle.desk_journal.specs.Reading.{latched}
use Rattle.desk_journal.specs.Stamps.{HasStamp}

pub length-checksum : (previous : List ℕ) (f : Frame) → length (checksum previous f) ≡ 32
unfolding checksum
length-checksum previous f = length-sha256 (previous ++ f.durable ++ f.size ++ f.content)

pub frames-append : (previous : List ℕ) (fs gs : List Frame) → frames previous (fs ++ gs) ≡ frames previous fs ++ frames (last_checksum previous fs) gs
frames-append previous [] gs = refl
frames-append previous (f ∷ fs) gs =
    ap (λ (l : List ℕ). f.latch ∷ f.second ∷ (packed previous f ++ l)) (frames-append (checksum previous f) fs gs)
    ∙ ap (λ (l : List ℕ). f.latch ∷ f.second ∷ l) (sym (append_assoc (packed previous f) (frames (checksum previous f) fs) (frames (last_checksum (checksum previous f) fs) gs)))

pub last_checksum-append : (previous : List ℕ) (fs gs : List Frame) → last_checksum previous (fs ++ gs) ≡ last_checksum (last_checksum previous fs) gs
last_checksum-append previous [] gs = refl
last_checksum-append previous (f ∷ fs) gs = last_checksum-append (checksum previous f) fs gs

pub size_of_last-append : (earlier : ℕ) (fs gs : List Frame) → size_of_last earlier (fs ++ gs) ≡ size_of_last (size_of_last earlier fs) gs
size_of_last-append earlier [] gs = refl
size_of_last-append earlier (f ∷ fs) gs = size_of_last-append (length f.content) fs gs

pub frames-push : (previous : List ℕ) (fs : List Frame) (f : Frame) → frames previous (fs ++ f ∷ []) ≡ frames previous fs ++ latched (last_checksum previous fs) f
frames-push previous fs f =
    frames-append previous fs (f ∷ [])
    ∙ ap (λ (l : List ℕ). frames previous fs ++ f.latch ∷ f.second ∷ l) (append-nil (packed (last_checksum previous fs) f))

-- the bytes of a frame, and of what comes after it
pub record Laid (previous : List ℕ) (f : Frame) (rest bytes : List ℕ) : Type 0 where
  pub durable : take 4 bytes ≡ f.durable
  pub size : take 4 (drop 4 bytes) ≡ f.size
  pub sum : take 32 (drop 4 (drop 4 bytes)) ≡ checksum previous f
  pub content : drop 32 (drop 4 (drop 4 bytes)) ≡ f.content ++ rest
  pub long : 40 + length f.content + length rest ≡ length bytes

pub apart : (previous : List ℕ) (f : Frame) (rest : List ℕ) → packed previous f ++ rest ≡ f.durable ++ (f.size ++ (checksum previous f ++ (f.content ++ rest)))
apart previous f rest =
    append_assoc f.durable (f.size ++ (checksum previous f ++ f.content)) rest
    ∙ ap (λ (l : List ℕ). f.durable ++ l) (append_assoc f.size (checksum previous f ++ f.content) rest
    ∙ ap (λ (l : List ℕ). f.size ++ l) (append_assoc (checksum previous f) f.content rest))

pub laid : (previous : List ℕ) (f : Frame) (rest bytes : List ℕ) → IsSized f → bytes ≡ packed previous f ++ rest → Laid previous f rest bytes
laid previous f rest bytes is e =
    record {
      durable = ap (λ (l : List ℕ). take 4 l) whole ∙ take_at f.durable (f.size ++ (checksum previous f ++ (f.content ++ rest))) 4 is.four;
      size = ap (λ (l : List ℕ). take 4 l) second ∙ take_at f.size (checksum previous f ++ (f.content ++ rest)) 4 is.four_more;
      sum = ap (λ (l : List ℕ). take 32 l) third ∙ take_at (checksum previous f) (f.content ++ rest) 32 (length-checksum previous f);
      content = ap (λ (l : List ℕ). drop 32 l) third ∙ drop_at (checksum previous f) (f.content ++ rest) 32 (length-checksum previous f);
      long = omega (arith, ap length whole, length-append f.durable (f.size ++ (checksum previous f ++ (f.content ++ rest))), length-append f.size (checksum previous f ++ (f.content ++ rest)), length-append (checksum previous f) (f.content ++ rest), length-append f.content rest, is.four, is.four_more, length-checksum previous f);
    }
  where
    whole : bytes ≡ f.durable ++ (f.size ++ (checksum previous f ++ (f.content ++ rest)))
    whole = e ∙ apart previous f rest

    second : drop 4 bytes ≡ f.size ++ (checksum previous f ++ (f.content ++ rest))
    second = ap (λ (l : List ℕ). drop 4 l) whole ∙ drop_at f.durable (f.size ++ (checksum previous f ++ (f.content ++ rest))) 4 is.four

    third : drop 4 (drop 4 bytes) ≡ checksum previous f ++ (f.content ++ rest)
    third = ap (λ (l : List ℕ). drop 4 l) second ∙ drop_at f.size (checksum previous f ++ (f.content ++ rest)) 4 is.four_more

-- two frames with the same bytes after the same latch, whatever follows, are one
pub record SameFrame (f g : Frame) (r s : List ℕ) : Type 0 where
  pub frame : f ≡ g
  pub rest : r ≡ s

pub same_frame : (previous : List ℕ) (f g : Frame) (r s : List ℕ) → IsSized f → IsSized g → f.latch ≡ g.latch → f.second ≡ g.second → packed previous f ++ r ≡ packed previous g ++ s → SameFrame f g r s
same_frame previous f g r s is_f is_g latch second e =
    record { frame = λ i. record { latch = latch i; second = second i; durable = durables i; size = sizes i; content = contents i }; rest = rests }
  where
    of_f : Laid previous f r (packed previous g ++ s)
    of_f = laid previous f r (packed previous g ++ s) is_f (sym e)

    of_g : Laid previous g s (packed previous g ++ s)
    of_g = laid previous g s (packed previous g ++ s) is_g refl

    durables : f.durable ≡ g.durable
    durables = sym of_f.durable ∙ of_g.durable

    sizes : f.size ≡ g.size
    sizes = sym of_f.size ∙ of_g.size

    behind : f.content ++ r ≡ g.content ++ s
    behind = sym of_f.content ∙ of_g.content

    long : length f.content ≡ length g.content
    long = sym is_f.long ∙ ap number_of sizes ∙ is_g.long

    contents : f.content ≡ g.content
    contents = sym (take_at f.content r (length f.content) refl) ∙ ap (λ (l : List ℕ). take (length f.content) l) behind ∙ take_at g.content s (length f.content) (sym long)

    rests : r ≡ s
    rests = sym (drop_at f.content r (length f.content) refl) ∙ ap (λ (l : List ℕ). drop (length f.content) l) behind ∙ drop_at g.content s (length f.content) (sym long)

pub frame_of-durable : (durable : ℕ) (content : List ℕ) → (frame_of durable content).durable ≡ to_be_bytes w32 durable
unfolding frame_of
frame_of-durable durable content = refl

pub frame_of-size : (durable : ℕ) (content : List ℕ) → (frame_of durable content).size ≡ to_be_bytes w32 (length content)
unfolding frame_of
frame_of-size durable content = refl

pub frame_of-content : (durable : ℕ) (content : List ℕ) → (frame_of durable content).content ≡ content
unfolding frame_of
frame_of-content durable content = refl

number_there : (n : ℕ) → n < 2 ^ 32 → number_of (to_be_bytes w32 n) ≡ n
unfolding number_of
number_there n small = from_be_bytes-to_be_bytes_4 n small

pub durable-frame_of : (durable : ℕ) (content : List ℕ) → durable < 2 ^ 32 → number_of (frame_of durable content).durable ≡ durable
durable-frame_of durable content small = ap number_of (frame_of-durable durable content) ∙ number_there durable small

pub frame_of-latch : (durable : ℕ) (content : List ℕ) → (frame_of durable content).latch ≡ 43
unfolding frame_of
frame_of-latch durable content = refl

pub frame_of-second : (durable : ℕ) (content : List ℕ) → (frame_of durable content).second ≡ 43
unfolding frame_of
frame_of-second durable content = refl

pub IsFrame-frame_of : (durable : ℕ) (content : List ℕ) → length content < 2 ^ 32 → HasStamp content → IsFrame (frame_of durable content)
IsFrame-frame_of durable content small stamped = record {
  opened = λ shut. omega (arith, shut.0, frame_of-latch durable content);
  sized = record {
    four = ap length (frame_of-durable durable content);
    four_more = ap length (frame_of-size durable content);
    long = ap number_of (frame_of-size durable content) ∙ number_there (length content) small ∙ sym (ap length (frame_of-content durable content));
  };
  stamped = subst HasStamp (sym (frame_of-content durable content)) stamped;
}

-- a frame from its parts
pub same_parts : (f : Frame) (latch second : ℕ) (d s content : List ℕ) → latch ≡ f.latch → second ≡ f.second → d ≡ f.durable → s ≡ f.size → content ≡ f.content
    → ◌≡◌ {A = Frame} (record { latch = latch; second = second; durable = d; size = s; content = content }) f
same_parts f latch second d s content latch_is second_is d_is s_is content_is =
    λ i. record { latch = latch_is i; second = second_is i; durable = d_is i; size = s_is i; content = content_is i }

-- the frame with another latch
abbrev pub relatched : (latch second : ℕ) → Frame → Frame
relatched latch second f = record { latch = latch; second = second; durable = f.durable; size = f.size; content = f.content }

pub checksum-relatched : (previous : List ℕ) (latch second : ℕ) (f : Frame) → checksum previous (relatched latch second f) ≡ checksum previous f
unfolding checksum
checksum-relatched previous latch second f = refl

pub frames-relatched : (previous : List ℕ) (latch second : ℕ) (f : Frame) (fs : List Frame) → frames previous (relatched latch second f ∷ fs) ≡ latch ∷ second ∷ (packed previous f ++ frames (checksum previous f) fs)
unfolding checksum
frames-relatched previous latch second f fs = refl

pub IsFrame-relatched : (latch second : ℕ) (f : Frame) → (AreShut latch second → ⊥) → IsFrame f → IsFrame (relatched latch second f)
IsFrame-relatched latch second f opened is = record { opened = opened; sized = record { four = is.sized.four; four_more = is.sized.four_more; long = is.sized.long }; stamped = is.stamped }
