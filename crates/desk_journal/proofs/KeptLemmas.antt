-- What a journal keeps once a batch is appended.
use Rattle.std.proofs.Common.{◌≡◌, ◌⊎◌, inl, inr, ℕ, ◌+◌, ◌<◌, ◌≤◌, List, [], ◌∷◌, ◌++◌, length, drop, Vec, refl, sym, ◌∙◌, ap, subst, arith, length-append}
use Rattle.std.specs.Prelude.{All, IsTrue}
use Rattle.std.specs.declared.alloc.Global.{Global}
use Rattle.std.proofs.lemmas.List.{length-map, map-append, append-nil}
use Rattle.sqlite_disk.specs.declared.Disk as disk
use Rattle.desk_journal.specs.Frames.{Frame, IsFrame, StandsFor, frame_of, framed, first_checksum, last_checksum, size_of_last, frames, entries_of}
use Rattle.desk_journal.specs.Batches.{batch_of, frames_of}
use Rattle.desk_journal.specs.Stamps.{StampView, IsStamp, entry_in}
use Rattle.desk_journal.specs.Disks.{IsLonger, IsAround, IsUntouched}
use Rattle.desk_journal.specs.Kept.{KeepsFrames, IsKept, IsUnchanged}
use Rattle.desk_journal.specs.Left.{BeginsWith}
use Rattle.desk_journal.specs.declared.journal.Journal.{Journal}
use Rattle.desk_journal.proofs.CrashLemmas.{stands, stands_longer, stands_around}
use Rattle.desk_journal.proofs.FrameLemmas.{frames-append, last_checksum-append, size_of_last-append}
use Rattle.desk_journal.proofs.BatchLemmas.{entries_of-frames_of, are_frames}
use Rattle.desk_journal.proofs.OneList.{ends_shut, further}

begins : (previous : List ℕ) (durable : ℕ) (stamp : StampView) (batch : List (Vec ℕ Global)) → 0 < length batch
    → 43 ∷ 43 ∷ drop 2 (frames previous (frames_of durable stamp batch) ++ 45 ∷ 45 ∷ []) ≡ frames previous (frames_of durable stamp batch) ++ 45 ∷ 45 ∷ []
unfolding frame_of
begins previous durable stamp [] some = absurd (omega arith)
begins previous durable stamp (v ∷ batch) some = refl

-- the frames of a batch that isn't empty
pub some_bytes : (previous : List ℕ) (durable : ℕ) (stamp : StampView) (batch : List (Vec ℕ Global)) → 0 < length batch → 2 ≤ length (frames previous (frames_of durable stamp batch))
some_bytes previous durable stamp [] some = omega (arith, some)
some_bytes previous durable stamp (v ∷ batch) some = omega arith

module _ (fs : List Frame) (batch : List (Vec ℕ Global)) (some : 0 < length batch) (stamp : StampView) (count : ℕ) (last buffer behind : List ℕ)
    (count_is : count ≡ length fs) (last_is : last ≡ last_checksum first_checksum fs)
    (buffer_is : buffer ≡ frames last (frames_of count stamp batch) ++ 45 ∷ 45 ∷ []) (behind_is : behind ≡ drop 2 buffer) where
  here : buffer ≡ frames (last_checksum first_checksum fs) (frames_of (length fs) stamp batch) ++ 45 ∷ 45 ∷ []
  here = buffer_is ∙ (λ i. frames (last_is i) (frames_of (count_is i) stamp batch) ++ 45 ∷ 45 ∷ [])

  as_many : length (frames_of (length fs) stamp batch) ≡ length batch
  as_many = length-map batch (λ (v : Vec ℕ Global). framed (length fs) stamp v.items)

  pub packed_is : 43 ∷ 43 ∷ behind ≡ frames (last_checksum first_checksum fs) (frames_of (length fs) stamp batch) ++ 45 ∷ 45 ∷ []
  packed_is =
      ap (λ (l : List ℕ). 43 ∷ 43 ∷ l) (behind_is ∙ ap (drop 2) here)
      ∙ begins (last_checksum first_checksum fs) (length fs) stamp batch some

  pub length_behind : length behind ≡ length (frames (last_checksum first_checksum fs) (frames_of (length fs) stamp batch))
  length_behind = omega (arith, ap length packed_is, length-append (frames (last_checksum first_checksum fs) (frames_of (length fs) stamp batch)) (45 ∷ 45 ∷ []))

  pub end_more : (end next : ℕ) → length (frames first_checksum fs) ≡ end → next ≡ end + length behind → length (frames first_checksum (fs ++ frames_of (length fs) stamp batch)) ≡ next
  end_more end next end_is next_is =
      ap length (frames-append first_checksum fs (frames_of (length fs) stamp batch))
      ∙ omega (arith, length-append (frames first_checksum fs) (frames (last_checksum first_checksum fs) (frames_of (length fs) stamp batch)), end_is, next_is, length_behind)

  pub count_more : (next : ℕ) → next ≡ count + length batch → next ≡ length (fs ++ frames_of (length fs) stamp batch)
  count_more next next_is = omega (arith, next_is, count_is, as_many, length-append fs (frames_of (length fs) stamp batch))

  pub last_more : (next : List ℕ) → next ≡ last_checksum last (frames_of count stamp batch) → next ≡ last_checksum first_checksum (fs ++ frames_of (length fs) stamp batch)
  last_more next next_is = next_is ∙ (λ i. last_checksum (last_is i) (frames_of (count_is i) stamp batch)) ∙ sym (last_checksum-append first_checksum fs (frames_of (length fs) stamp batch))

  pub size_more : (size next : ℕ) → size ≡ size_of_last 0 fs → ((durable : ℕ) → next ≡ size_of_last size (frames_of durable stamp batch)) → next ≡ size_of_last 0 (fs ++ frames_of (length fs) stamp batch)
  size_more size next size_is next_is =
      next_is (length fs) ∙ ap (λ (n : ℕ). size_of_last n (frames_of (length fs) stamp batch)) size_is ∙ sym (size_of_last-append 0 fs (frames_of (length fs) stamp batch))

  -- whatever a crash leaves of the file, all of the batch counts or none of it
  pub left_of_append : IsStamp stamp → All IsFrame fs → All (λ v. length v.items ≤ 16777216) batch → (c : List ℕ) → IsLonger (frames first_checksum fs ++ 45 ∷ 45 ∷ []) c ⊎ IsAround (frames first_checksum fs) behind c
      → StandsFor c (entries_of fs) ⊎ StandsFor c (entries_of (fs ++ frames_of (length fs) stamp batch))
  left_of_append is whole short c (inl longer) = inl (stands_longer fs whole c longer)
  left_of_append is whole short c (inr around) =
      stands_around fs whole (frames_of (length fs) stamp batch) (are_frames (length fs) stamp batch is short) behind packed_is c around

-- the entries of the frames with those of a batch
pub entries_more : (fs : List Frame) (n : ℕ) (stamp : StampView) (batch : List (Vec ℕ Global)) (entries : List (List ℕ)) → entries ≡ entries_of fs → entries_of (fs ++ frames_of n stamp batch) ≡ entries ++ batch_of batch
entries_more fs n stamp batch entries same =
    map-append (λ (f : Frame). entry_in f.content) fs (frames_of n stamp batch) ∙ (λ i. sym same i ++ entries_of-frames_of n stamp batch i)

pub either_stands : (c : List ℕ) (fs : List Frame) (n : ℕ) (stamp : StampView) (batch : List (Vec ℕ Global)) (entries : List (List ℕ)) → entries ≡ entries_of fs
    → StandsFor c (entries_of fs) ⊎ StandsFor c (entries_of (fs ++ frames_of n stamp batch)) → StandsFor c entries ⊎ StandsFor c (entries ++ batch_of batch)
either_stands c fs n stamp batch entries same (inl before) = inl (subst (StandsFor c) (sym same) before)
either_stands c fs n stamp batch entries same (inr after) = inr (subst (StandsFor c) (entries_more fs n stamp batch entries same) after)

-- the journal once its file was looked at
abbrev pub looked : {D : Type 0} → Journal D → D → Journal D
looked journal disk = record { disk = disk; end = journal.end; count = journal.count; last = journal.last; last_size = journal.last_size; stamp = journal.stamp; front = journal.front; buffer = journal.buffer }

module _ {D : Type 0} (g : disk.Ghosts D) (journal : Journal D) where
  -- between two calls a crash leaves what is kept
  pub rest_stands : (fs : List Frame) → KeepsFrames g fs journal → (c : List ℕ) → g.may_leave journal.disk c → StandsFor c (entries_of fs)
  rest_stands fs kept c left = stands c fs (45 ∷ 45 ∷ []) kept.whole (kept.file.only c left) (refl, refl)

  -- and begins with it
  pub rest_begins : (fs : List Frame) → KeepsFrames g fs journal → (c : List ℕ) → g.may_leave journal.disk c → BeginsWith c fs
  rest_begins fs kept c left = (45 ∷ 45 ∷ [], kept.file.only c left)

  pub rest_kept : (entries : List (List ℕ)) → IsKept g entries journal → (c : List ℕ) → g.may_leave journal.disk c → StandsFor c entries
  rest_kept entries kept c left = subst (StandsFor c) (sym kept.same) (rest_stands kept.fs kept.kept c left)

  -- entries are kept where their frames are, and only there
  pub frames_are_kept : (fs : List Frame) → KeepsFrames g fs journal → IsKept g (entries_of fs) journal
  frames_are_kept fs kept = record { fs = fs; kept = kept; same = refl }

  pub frames_of_kept : (entries : List (List ℕ)) → IsKept g entries journal → (fs : List Frame) × KeepsFrames g fs journal × (entries ≡ entries_of fs)
  frames_of_kept entries kept = (kept.fs, kept.kept, kept.same)

  -- the file begins with the frames that are kept, and other frames with which it begins are the first of them
  pub kept_begins : (fs : List Frame) → KeepsFrames g fs journal → BeginsWith (g.seen journal.disk) fs
  kept_begins fs kept = (45 ∷ 45 ∷ [], kept.file.read)

  pub first_of_kept : (fs first : List Frame) → KeepsFrames g fs journal → All IsFrame first → BeginsWith (g.seen journal.disk) first → (others : List Frame) × (fs ≡ first ++ others)
  first_of_kept fs first kept whole begins =
      let on = further first_checksum first fs (45 ∷ 45 ∷ []) begins.0 whole kept.whole (ends_shut (last_checksum first_checksum fs) (45 ∷ 45 ∷ []) (refl, refl)) (sym begins.1 ∙ kept.file.read) in
      (on.others, on.same)

  pub kept_more : (fs : List Frame) (n : ℕ) (stamp : StampView) (batch : List (Vec ℕ Global)) (entries : List (List ℕ)) → entries ≡ entries_of fs
      → KeepsFrames g (fs ++ frames_of n stamp batch) journal → IsKept g (entries ++ batch_of batch) journal
  kept_more fs n stamp batch entries same kept = record { fs = fs ++ frames_of n stamp batch; kept = kept; same = sym (entries_more fs n stamp batch entries same) }

  -- nothing is appended
  pub none_kept : (entries more : List (List ℕ)) → more ≡ [] → IsKept g entries journal → IsKept g (entries ++ more) journal
  none_kept entries more none kept = record { fs = kept.fs; kept = kept.kept; same = ap (λ (l : List (List ℕ)). entries ++ l) none ∙ append-nil entries ∙ kept.same }

  -- what is kept is unchanged
  pub kept_unchanged : (fs : List Frame) → KeepsFrames g fs journal → IsUnchanged (g.seen journal.disk) journal.end
  kept_unchanged fs kept = (frames first_checksum fs, kept.end, kept.file.read)

  pub still_keeps : (disk : D) → IsUntouched g journal.disk disk → IsTrue (g.is_usable disk) → (fs : List Frame) → KeepsFrames g fs journal → KeepsFrames g fs (looked journal disk)
  still_keeps disk untouched usable fs kept = record {
    whole = kept.whole;
    file = record { read = untouched.same ∙ kept.file.read; only = λ c left. kept.file.only c (untouched.no_more c left); usable = usable };
    few = kept.few;
    end = kept.end;
    count = kept.count;
    last = kept.last;
    last_size = kept.last_size;
    time = kept.time;
  }
