-- One frame, from the parts into which bytes are split.
use Rattle.std.proofs.Common.{◌≡◌, ℕ, ◌<◌, ◌≤◌, List, [], ◌∷◌, ◌++◌, length, take, drop, refl, sym, ◌∙◌, ap, subst, arith, length-append, take-append-drop, length-drop}
use Rattle.std.specs.Prelude.{Bool, true, false, not}
use Rattle.std.specs.Str.{bytes_eq}
use Rattle.std.proofs.lemmas.Bool.{false≢true}
use Rattle.std.proofs.lemmas.Slice.Eq.{bytes_eq-Decides}
use Rattle.std.proofs.lemmas.List.{take_at, length-take-le}
use Rattle.desk_journal.specs.Frames.{AreShut, Frame, IsShut, number_of, checksum, packed}
use Rattle.desk_journal.specs.Reading.{HasNoBody, HasNoFrame, HasNoLatch, IsBehind, IsBody, IsNext, latched}
use Rattle.desk_journal.specs.Stamps.{HasStamp}
use Rattle.desk_journal.proofs.FrameLemmas.{Laid, SameFrame, laid, apart, checksum-relatched, relatched, same_frame}

joined : (n : ℕ) (l a b : List ℕ) → a ≡ take n l → b ≡ drop n l → l ≡ a ++ b
joined n l a b front back = sym (take-append-drop n l) ∙ ap (λ (x : List ℕ). x ++ drop n l) (sym front) ∙ ap (λ (x : List ℕ). a ++ x) (sym back)

-- the frame of the parts
abbrev pub read : (latch second : ℕ) → List ℕ → List ℕ → List ℕ → Frame
read latch second durable size content = record { latch = latch; second = second; durable = durable; size = size; content = content }

turned : (b : Bool) → not b ≡ false → b ≡ true
turned true e = refl
turned false e = cc

-- what `!=` says of two lists of bytes
pub same_bytes : (xs ys : List ℕ) (differ : Bool) → differ ≡ not (bytes_eq xs ys) → differ ≡ false → xs ≡ ys
same_bytes xs ys differ is agree = (bytes_eq-Decides xs ys).0 (turned (bytes_eq xs ys) (sym is ∙ agree))

pub other_bytes : (xs ys : List ℕ) (differ : Bool) → differ ≡ not (bytes_eq xs ys) → differ ≡ true → xs ≡ ys → ⊥
other_bytes xs ys differ is apart_too same =
    let both : bytes_eq xs ys ≡ true = (bytes_eq-Decides xs ys).1 same in
    false≢true (sym (ap not both) ∙ sym is ∙ apart_too)

-- the bytes after the latch of a frame
body : (previous behind : List ℕ) (latch second : ℕ) (f : Frame) (rest : List ℕ) → latch ∷ second ∷ behind ≡ latched previous f ++ rest → behind ≡ packed previous f ++ rest
body previous behind latch second f rest e = ap (drop 2) e

-- bytes that are too few for a frame
pub too_few : (previous behind : List ℕ) → length behind < 40 → HasNoBody previous behind
too_few previous behind few f rest is e = omega (arith, (laid previous f rest behind is e).long)

module _ (previous bytes durable after_durable size after_size sum after_sum : List ℕ) (long : ℕ)
    (durable_is : durable ≡ take 4 bytes) (after_durable_is : after_durable ≡ drop 4 bytes)
    (size_is : size ≡ take 4 after_durable) (after_size_is : after_size ≡ drop 4 after_durable)
    (sum_is : sum ≡ take 32 after_size) (after_sum_is : after_sum ≡ drop 32 after_size)
    (long_is : long ≡ number_of size) where
  tail_is : after_sum ≡ drop 32 (drop 4 (drop 4 bytes))
  tail_is = after_sum_is ∙ ap (λ (l : List ℕ). drop 32 l) (after_size_is ∙ ap (λ (l : List ℕ). drop 4 l) after_durable_is)

  said : (f : Frame) (rest : List ℕ) → Laid previous f rest bytes → size ≡ f.size
  said f rest parts = size_is ∙ ap (λ (l : List ℕ). take 4 l) after_durable_is ∙ parts.size

  -- fewer bytes than the frame says that it has
  pub cut_off : length after_sum < long → HasNoBody previous bytes
  cut_off few f rest is e =
      let parts = laid previous f rest bytes is e in
      omega (arith, ap length (tail_is ∙ parts.content), length-append f.content rest, long_is ∙ ap number_of (said f rest parts) ∙ is.long)

  module _ (content rest checked : List ℕ) (content_is : content ≡ take long after_sum)
      (checked_is : checked ≡ checksum previous (read 43 43 durable size content)) where
    -- another checksum than the frame says
    pub other_sum : (checked ≡ sum → ⊥) → HasNoBody previous bytes
    other_sum differs f more is e =
        differs (checked_is ∙ ap (checksum previous) same ∙ checksum-relatched previous 43 43 f ∙ sym (sum_is ∙ ap (λ (l : List ℕ). take 32 l) (after_size_is ∙ ap (λ (l : List ℕ). drop 4 l) after_durable_is) ∙ parts.sum))
      where
        parts : Laid previous f more bytes
        parts = laid previous f more bytes is e

        sizes : length f.content ≡ long
        sizes = sym is.long ∙ sym (ap number_of (said f more parts)) ∙ sym long_is

        contents : content ≡ f.content
        contents = content_is ∙ ap (λ (l : List ℕ). take long l) (tail_is ∙ parts.content) ∙ take_at f.content more long sizes

        durables : durable ≡ f.durable
        durables = durable_is ∙ parts.durable

        same : read 43 43 durable size content ≡ relatched 43 43 f
        same = λ i. record { latch = 43; second = 43; durable = durables i; size = said f more parts i; content = contents i }

    -- all that comes after a latch
    pub found : (number : ℕ) → 40 ≤ length bytes → long ≤ length after_sum → rest ≡ drop long after_sum → checked ≡ sum → number ≡ number_of durable
        → IsBody previous bytes number checked content rest
    found number room fits rest_is agrees number_is = record {
      frame = (read 43 43 durable size content);
      sized = record {
        four = ap length durable_is ∙ length-take-le 4 bytes (omega arith);
        four_more = ap length size_is ∙ length-take-le 4 after_durable (omega (arith, ap length after_durable_is, length-drop 4 bytes));
        long = sym long_is ∙ sym (ap length content_is ∙ length-take-le long after_sum fits);
      };
      content_is = refl;
      durable_is = sym number_is;
      sum_is = checked_is;
      parts = joined 4 bytes durable after_durable durable_is after_durable_is
          ∙ ap (λ (l : List ℕ). durable ++ l) (joined 4 after_durable size after_size size_is after_size_is
          ∙ ap (λ (l : List ℕ). size ++ l) (joined 32 after_size sum after_sum sum_is after_sum_is
          ∙ ap (λ (l : List ℕ). l ++ after_sum) (sym agrees ∙ checked_is)
          ∙ ap (λ (l : List ℕ). checksum previous (read 43 43 durable size content) ++ l) (joined long after_sum content rest content_is rest_is)))
          ∙ sym (apart previous (read 43 43 durable size content) rest);
    }

    -- it is shorter by what comes after it
    pub found_shorter : 40 ≤ length bytes → rest ≡ drop long after_sum → length rest < length bytes
    found_shorter room rest_is =
        omega (
          arith,
          ap length rest_is,
          length-drop long after_sum,
          ap length after_sum_is,
          length-drop 32 after_size,
          ap length after_size_is,
          length-drop 4 after_durable,
          ap length after_durable_is,
          length-drop 4 bytes,
        )

-- it is a frame after any latch that isn't shut, where its content begins with a whole stamp
pub next_of : (previous behind : List ℕ) (number : ℕ) (sum content rest : List ℕ) → IsBody previous behind number sum content rest → HasStamp content
    → (latch second : ℕ) → (AreShut latch second → ⊥) → IsNext previous (latch ∷ second ∷ behind) number sum content rest
next_of previous behind number sum content rest is has latch second opened = record {
  frame = relatched latch second is.frame;
  whole = record { opened = opened; sized = record { four = is.sized.four; four_more = is.sized.four_more; long = is.sized.long }; stamped = subst HasStamp (sym is.content_is) has };
  content_is = is.content_is;
  durable_is = is.durable_is;
  sum_is = is.sum_is ∙ sym (checksum-relatched previous latch second is.frame);
  parts = ap (λ (l : List ℕ). latch ∷ second ∷ l) (is.parts
      ∙ ap (λ (s : List ℕ). (is.frame.durable ++ (is.frame.size ++ (s ++ is.frame.content))) ++ rest) (sym (checksum-relatched previous latch second is.frame)));
}

-- where it doesn't, no frame is here
pub no_stamp : (previous behind : List ℕ) (number : ℕ) (sum content rest : List ℕ) → IsBody previous behind number sum content rest → (HasStamp content → ⊥)
    → (latch second : ℕ) → HasNoFrame previous (latch ∷ second ∷ behind)
no_stamp previous behind number sum content rest is none latch second f more is_f e =
    none (subst HasStamp (ap (λ (g : Frame). g.content) one.frame ∙ is.content_is) is_f.stamped)
  where
    h : Frame
    h = relatched f.latch f.second is.frame

    one : SameFrame f h more rest
    one = same_frame previous f h more rest is_f.sized (record { four = is.sized.four; four_more = is.sized.four_more; long = is.sized.long }) refl refl
        (sym (body previous behind latch second f more e) ∙ is.parts
        ∙ ap (λ (s : List ℕ). (is.frame.durable ++ (is.frame.size ++ (s ++ is.frame.content))) ++ rest) (sym (checksum-relatched previous f.latch f.second is.frame)))

-- nor where nothing is that would come after a latch
pub no_body : (previous behind : List ℕ) → HasNoBody previous behind → (latch second : ℕ) → HasNoFrame previous (latch ∷ second ∷ behind)
no_body previous behind none latch second f rest is e = none f rest is.sized (body previous behind latch second f rest e)

-- a latch that isn't shut, and what comes after it
pub behind_here : (bytes behind : List ℕ) → 2 ≤ length bytes → behind ≡ drop 2 bytes → (IsShut bytes → ⊥) → IsBehind bytes behind
behind_here [] behind long is opened = absurd (omega (arith, long))
behind_here (a ∷ []) behind long is opened = absurd (omega (arith, long))
behind_here (a ∷ b ∷ bytes) behind long is opened = record { latch = a; second = b; opened = opened; parts = ap (λ (l : List ℕ). a ∷ b ∷ l) (sym is) }

-- none: the bytes end, or the latch is shut
pub none_short : (bytes : List ℕ) → length bytes < 2 → HasNoLatch bytes
none_short bytes short behind is = omega (arith, ap length is.parts)

pub none_when_shut : (bytes : List ℕ) → IsShut bytes → HasNoLatch bytes
none_when_shut bytes shut behind is = is.opened (subst IsShut is.parts shut)

-- no frame is where no latch is, nor where no frame follows the latch that is there
pub none_without : (previous bytes : List ℕ) → HasNoLatch bytes → HasNoFrame previous bytes
none_without previous bytes none f rest is e = none (packed previous f ++ rest) (record { latch = f.latch; second = f.second; opened = is.opened; parts = e })

pub none_after : (previous bytes behind : List ℕ) → IsBehind bytes behind → ((latch second : ℕ) → HasNoFrame previous (latch ∷ second ∷ behind)) → HasNoFrame previous bytes
none_after previous bytes behind is none = subst (HasNoFrame previous) (sym is.parts) (none is.latch is.second)

pub next_after : (previous bytes behind : List ℕ) (durable : ℕ) (sum content rest : List ℕ) → IsBehind bytes behind
    → ((latch second : ℕ) → (AreShut latch second → ⊥) → IsNext previous (latch ∷ second ∷ behind) durable sum content rest) → IsNext previous bytes durable sum content rest
next_after previous bytes behind durable sum content rest is next =
    subst (λ (l : List ℕ). IsNext previous l durable sum content rest) (sym is.parts) (next is.latch is.second is.opened)
