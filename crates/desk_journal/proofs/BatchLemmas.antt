-- The frames of a batch.
use Rattle.std.proofs.Common.{◌≡◌, ℕ, ◌+◌, ◌<◌, ◌≤◌, List, [], ◌∷◌, ◌++◌, length, take, get_or, Vec, refl, sym, ◌∙◌, ap, arith, append_assoc, length-append}
use Rattle.std.specs.Prelude.{All}
use Rattle.std.specs.declared.alloc.Global.{Global}
use Rattle.std.proofs.lemmas.List.{map_more}
use Rattle.std.proofs.lemmas.List.Elements.{All-map, All-weaker}
use Rattle.desk_journal.specs.Frames.{Frame, IsFrame, frame_of, checksum, packed, frames, last_checksum, entries_of}
use Rattle.desk_journal.specs.Batches.{batch_of, frames_of, frames_after}
use Rattle.desk_journal.proofs.FrameLemmas.{frames-push, last_checksum-append, frame_of-content, frame_of-latch, frame_of-second, IsFrame-frame_of}
use Rattle.desk_journal.proofs.StampLemmas.{HasStamp-content_of, entry_in-content_of, length-stamp_bytes}
use Rattle.desk_journal.specs.Stamps.{StampView, IsStamp, content_of, entry_in, stamp_bytes}

pub entries_of-frames_of : (durable : ℕ) (stamp : StampView) (batch : List (Vec ℕ Global)) → entries_of (frames_of durable stamp batch) ≡ batch_of batch
entries_of-frames_of durable stamp [] = refl
entries_of-frames_of durable stamp (v ∷ batch) =
    λ i. (ap entry_in (frame_of-content durable (content_of stamp v.items)) ∙ entry_in-content_of stamp v.items) i ∷ entries_of-frames_of durable stamp batch i

pub are_frames : (durable : ℕ) (stamp : StampView) (batch : List (Vec ℕ Global)) → IsStamp stamp → All (λ v. length v.items ≤ 16777216) batch → All IsFrame (frames_of durable stamp batch)
are_frames durable stamp batch is short =
    All-map IsFrame (λ v. frame_of durable (content_of stamp v.items)) batch
    (All-weaker (λ (v : Vec ℕ Global). length v.items ≤ 16777216) (λ v. IsFrame (frame_of durable (content_of stamp v.items)))
    (λ v small. IsFrame-frame_of durable (content_of stamp v.items) (omega (arith, small, is.1, length-stamp_bytes stamp, length-append (stamp_bytes stamp) v.items)) (HasStamp-content_of stamp v.items is)) batch short)

-- one frame more, with its open latch
frame_of-push : (previous : List ℕ) (fs : List Frame) (durable : ℕ) (content : List ℕ) → frames previous (fs ++ frame_of durable content ∷ []) ≡ frames previous fs ++ 43 ∷ 43 ∷ packed (last_checksum previous fs) (frame_of durable content)
frame_of-push previous fs durable content =
    frames-push previous fs (frame_of durable content)
    ∙ (λ i. frames previous fs ++ frame_of-latch durable content i ∷ frame_of-second durable content i ∷ packed (last_checksum previous fs) (frame_of durable content))

-- the batch as far as it is packed
pub record IsPacked (previous : List ℕ) (durable : ℕ) (front : List ℕ) (batch : List (Vec ℕ Global)) (n : ℕ) (buffer sum : List ℕ) : Type 0 where
  pub bytes : buffer ≡ frames previous (frames_after durable front (take n batch))
  pub last : sum ≡ last_checksum previous (frames_after durable front (take n batch))

pub packed_more : (previous : List ℕ) (durable : ℕ) (front : List ℕ) (batch : List (Vec ℕ Global)) (n : ℕ) (v : Vec ℕ Global) (buffer sum more next : List ℕ) → n < length batch
    → IsPacked previous durable front batch n buffer sum → v ≡ get_or batch n v → more ≡ buffer ++ 43 ∷ 43 ∷ packed sum (frame_of durable (front ++ v.items)) → next ≡ checksum sum (frame_of durable (front ++ v.items))
    → IsPacked previous durable front batch (n + 1) more next
packed_more previous durable front batch n v buffer sum more next inside so_far here more_is next_is =
    record {
      bytes = more_is ∙ ap (λ (l : List ℕ). l ++ 43 ∷ 43 ∷ packed sum (frame_of durable (front ++ v.items))) so_far.bytes
          ∙ ap (λ (l : List ℕ). frames previous (frames_after durable front (take n batch)) ++ 43 ∷ 43 ∷ packed l (frame_of durable (front ++ v.items))) so_far.last
          ∙ sym (frame_of-push previous (frames_after durable front (take n batch)) durable (front ++ v.items)) ∙ ap (frames previous) (sym onward);
      last = next_is ∙ ap (λ (l : List ℕ). checksum l (frame_of durable (front ++ v.items))) so_far.last
          ∙ sym (last_checksum-append previous (frames_after durable front (take n batch)) (frame_of durable (front ++ v.items) ∷ [])) ∙ ap (last_checksum previous) (sym onward);
    }
  where
    onward : frames_after durable front (take (n + 1) batch) ≡ frames_after durable front (take n batch) ++ frame_of durable (front ++ v.items) ∷ []
    onward = map_more (λ (w : Vec ℕ Global). frame_of durable (front ++ w.items)) batch n v inside ∙ ap (λ (w : Vec ℕ Global). (frames_after durable front (take n batch)) ++ frame_of durable (front ++ w.items) ∷ []) (sym here)

-- the parts of a frame that is added
pub pushed : (previous buffer one two three four five six d s sum front entry : List ℕ) (f : Frame) → one ≡ buffer ++ 43 ∷ 43 ∷ [] → two ≡ one ++ d → three ≡ two ++ s → four ≡ three ++ sum → five ≡ four ++ front
    → six ≡ five ++ entry → d ≡ f.durable → s ≡ f.size → sum ≡ checksum previous f → front ++ entry ≡ f.content → six ≡ buffer ++ 43 ∷ 43 ∷ packed previous f
pushed previous buffer one two three four five six d s sum front entry f e1 e2 e3 e4 e5 e6 d_is s_is sum_is content_is =
    e6 ∙ ap (λ (l : List ℕ). l ++ entry) (e5 ∙ ap (λ (l : List ℕ). l ++ front) (e4 ∙ ap (λ (l : List ℕ). l ++ sum) (e3 ∙ ap (λ (l : List ℕ). l ++ s) (e2 ∙ ap (λ (l : List ℕ). l ++ d) e1))))
    ∙ joined ∙ (λ i. buffer ++ 43 ∷ 43 ∷ (d_is i ++ (s_is i ++ (sum_is i ++ content_is i))))
  where
    joined : ((((buffer ++ 43 ∷ 43 ∷ []) ++ d) ++ s) ++ sum) ++ front ++ entry ≡ buffer ++ 43 ∷ 43 ∷ (d ++ (s ++ (sum ++ (front ++ entry))))
    joined = simp append_assoc
