-- Drafts that are read at one moment, and prepared ones as the history grows.
use Rattle.std.proofs.Common.{◌≡◌, ℕ, ◌<◌, Some, None, IsSome, List, [], ◌∷◌, ◌++◌, length, All, refl, sym, subst, arith}
use Rattle.std.proofs.lemmas.List.{length-map}
use Rattle.std.proofs.lemmas.List.Elements.{All-nil, All-head, All-tail, All-push, All-weaker}
use mathlib.Core.List.{IsPrefix}
use Rattle.versioned_steps.specs.Rules.{Rules, IsLawful}
use Rattle.versioned_steps.specs.History.{value_of, version_of}
use Rattle.versioned_steps.specs.Reads.{Read, copies_of, IsRead, IsFresh, IsStale, AreAt}
use Rattle.versioned_steps.specs.Drafts.{DraftView, decided, IsDraftOf, IsPrepared, MayCommit, IsReading, IsReadAll}
use Rattle.versioned_steps.specs.declared.entry.Entry.{Entry}
use Rattle.versioned_steps.proofs.HistoryLemmas.{version_most}
use Rattle.versioned_steps.proofs.ReadLemmas.{read_longer, draft_add}

-- what holds of all holds of one between others
all_between : {X : Type 0} (P : X → Type 0) (before : List X) (x : X) (after : List X) → All P (before ++ x ∷ after) → P x
all_between P [] x after all = All-head P x after all
all_between P (y ∷ ys) x after all = all_between P ys x after (All-tail P y (ys ++ x ∷ after) all)

module _ {Part Value Command Answer : Type 0} (r : Rules Part Value Command Answer) where
  -- drafts of a history are drafts of each longer one
  pub draft_longer : (h k : List (Entry Command Answer)) → IsPrefix h k → (d : DraftView Part Value Command Answer) → IsDraftOf r h d → IsDraftOf r k d
  draft_longer h k begins d was =
      record { in_order = was.in_order; made = All-weaker (IsRead r h) (IsRead r k) (λ x. read_longer r h k x begins) d.reads was.made }

  pub prepared_longer : (h k : List (Entry Command Answer)) → IsPrefix h k → (d : DraftView Part Value Command Answer) → IsPrepared r h d → IsPrepared r k d
  prepared_longer h k begins d was =
      record { all_read = was.all_read; made = All-weaker (IsRead r h) (IsRead r k) (λ x. read_longer r h k x begins) d.reads was.made; settled = was.settled }

  -- a draft that has read nothing
  pub reading_start : (h : List (Entry Command Answer)) (d : DraftView Part Value Command Answer) → d.reads ≡ [] → IsReading r h d
  reading_start h d none =
      let P : List (Read Part Value) → Type 0 = λ reads. IsReading r h (record d { reads = reads }) in
      subst P (sym none) (record { reads = record { in_order = tt; made = All-nil _ }; now = All-nil _ })

  -- one more read at the same moment
  pub reading_more : (h : List (Entry Command Answer)) (d : DraftView Part Value Command Answer) (part : Part) (value : Value) (version at : ℕ)
      → at ≡ length h → version ≡ version_of r h part → value ≡ value_of r h part → r.next_part d.command (copies_of d.reads) ≡ Some part → IsReading r h d
      → IsReading r h (record d { reads = d.reads ++ record { part = part; value = value; version = version; at = at } ∷ []; decision = None })
  reading_more h d part value version at at_is version_is value_is next was =
      record {
        reads = draft_add r h d part value version at at_is version_is value_is next was.reads;
        now = All-push (λ (x : Read Part Value). x.at ≡ length h) d.reads (record { part = part; value = value; version = version; at = at }) was.now at_is;
      }

  -- where a part is left to read, fewer than the most were read
  pub reading_room : IsLawful r → (h : List (Entry Command Answer)) (d : DraftView Part Value Command Answer) (part : Part)
      → r.next_part d.command (copies_of d.reads) ≡ Some part → IsDraftOf r h d → length d.reads < r.most_reads
  reading_room laws h d part next was =
      let some : IsSome (r.next_part d.command (copies_of d.reads)) = rw next refl in
      let count : length (copies_of d.reads) ≡ length d.reads = length-map d.reads _ in
      omega (arith, laws.reading_ends d.command (copies_of d.reads) was.in_order some)

  -- settled once nothing is left to read
  pub reading_done : (h : List (Entry Command Answer)) (d settled : DraftView Part Value Command Answer) → IsReading r h d → r.next_part d.command (copies_of d.reads) ≡ None
      → settled ≡ record d { decision = Some (decided r d.command d.reads) } → IsReadAll r h settled
  reading_done h d settled was ended same =
      let P : DraftView Part Value Command Answer → Type 0 = λ x. IsReadAll r h x in
      subst P (sym same) (record {
        prepared = record { all_read = record { in_order = was.reads.in_order; ended = ended }; made = was.reads.made; settled = refl };
        now = was.now;
      })

  -- reads of this moment are fresh, so none is stale
  pub now_fresh : (h : List (Entry Command Answer)) (reads : List (Read Part Value)) → AreAt h reads → All (IsFresh r h) reads
  now_fresh h reads now =
      All-weaker (λ (x : Read Part Value). x.at ≡ length h) (IsFresh r h) (λ x at. omega (arith, at, version_most r h x.part)) reads now

  pub now_not_stale : (h : List (Entry Command Answer)) (reads : List (Read Part Value)) (part : Part) (version : ℕ) → AreAt h reads → IsStale r h reads part version → ⊥
  now_not_stale h reads part version now stale =
      let P : List (Read Part Value) → Type 0 = λ l. AreAt h l in
      let at : stale.read.at ≡ length h = all_between (λ (x : Read Part Value). x.at ≡ length h) stale.earlier stale.read stale.later (subst P stale.in_order now) in
      omega (arith, at, stale.touched_later, stale.version_now, version_most r h part)

  -- a draft that was prepared at this moment may be committed
  pub read_all_commits : (h : List (Entry Command Answer)) (d : DraftView Part Value Command Answer) → IsReadAll r h d → MayCommit r h d
  read_all_commits h d all = record { prepared = all.prepared; fresh = now_fresh h d.reads all.now }
