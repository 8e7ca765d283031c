-- Reads of a history as it grows: which stay good, and why a draft whose reads are all fresh may follow.
use Rattle.std.proofs.Common.{◌≡◌, ℕ, zero, suc, ◌+◌, ◌<◌, ◌≤◌, true, false, if◌then◌else◌, nat_lt, Some, None, option_map, List, [], ◌∷◌, ◌++◌, length, take, All, refl, ap, sym, ◌∙◌, subst, arith}
use Rattle.std.proofs.lemmas.List.{length-append, append-nil, append_assoc, map-append, take-append-le, take_all}
use Rattle.std.proofs.lemmas.List.Elements.{All-nil, All-cons, All-head, All-tail, All-push}
use Rattle.std.proofs.lemmas.Option.{none-some, same_Some}
use borrow.Author.Tests.{ltb-true, ltb-false}
use Rattle.std.specs.Option.{option_map_or}
use mathlib.Core.List.{IsPrefix}
use Rattle.versioned_steps.specs.Rules.{Rules, IsLawful, AreReadAfter, AreReadsOf, AreAllReadsOf}
use Rattle.versioned_steps.specs.History.{answer_on, reads_from, reads_on, writes_on, value_of, version_of, MayFollow}
use Rattle.versioned_steps.specs.Reads.{Read, copies_of, first_stale, read_now, IsRead, IsFresh, IsStale}
use Rattle.versioned_steps.specs.Drafts.{DraftView, DecisionView, decided, IsDraftOf, MayCommit, entry_of}
use Rattle.versioned_steps.specs.Moves.{IsReady}
use Rattle.versioned_steps.specs.declared.entry.Entry.{Entry}
use Rattle.versioned_steps.specs.declared.stale.Stale.{Stale}
use Rattle.versioned_steps.proofs.HistoryLemmas.{unchanged}

module _ {Part Value Command Answer : Type 0} (r : Rules Part Value Command Answer) where
  -- one more read in the command's order
  pub AreReadAfter-push : (command : Command) (before xs : List (Part × Value)) (x : Part × Value) → AreReadAfter r command before xs → r.next_part command (before ++ xs) ≡ Some x.0
      → AreReadAfter r command before (xs ++ x ∷ [])
  AreReadAfter-push command before [] x in_order next = (rw append-nil at next, tt)
  AreReadAfter-push command before (y ∷ ys) x in_order next =
      (in_order.0, AreReadAfter-push command (before ++ y ∷ []) ys x in_order.1 (rw append_assoc next))

  -- a command's reads are no more than the most
  pub reads_most : IsLawful r → (command : Command) (before xs : List (Part × Value)) → AreReadsOf r command before → length before ≤ r.most_reads → AreReadAfter r command before xs
      → length (before ++ xs) ≤ r.most_reads
  reads_most laws command before [] first few in_order = rw append-nil few
  reads_most laws command before (x ∷ xs) first few in_order =
      let room : length before < r.most_reads = laws.reading_ends command before first (rw in_order.0 refl) in
      let longer : length (before ++ x ∷ []) ≤ r.most_reads = rw length-append (omega arith) in
      let known : AreReadsOf r command (before ++ x ∷ []) = AreReadAfter-push command [] before x first in_order.0 in
      let rest : length ((before ++ x ∷ []) ++ xs) ≤ r.most_reads = reads_most laws command (before ++ x ∷ []) xs known longer in_order.1 in
      rw append_assoc at rest

  -- a command whose reads have these values reads them again, and reading ends at the same part
  pub reads_again : (values : Part → Value) (command : Command) (fuel : ℕ) (before xs : List (Part × Value)) → AreReadAfter r command before xs
      → All (λ x. x.1 ≡ values x.0) xs → r.next_part command (before ++ xs) ≡ None → length xs ≤ fuel → reads_from r fuel values command before ≡ before ++ xs
  unfolding reads_from
  reads_again values command zero before [] in_order same ended few = sym (append-nil before)
  reads_again values command (suc n) before [] in_order same ended few =
      let done : r.next_part command before ≡ None = rw append-nil at ended in
      ap (λ o. option_map_or (λ part. reads_from r n values command (before ++ (part, values part) ∷ [])) o before) done ∙ sym (append-nil before)
  reads_again values command zero before (x ∷ xs) in_order same ended few = absurd (omega arith)
  reads_again values command (suc n) before (x ∷ xs) in_order same ended few =
      let value : x.1 ≡ values x.0 = All-head (λ x. x.1 ≡ values x.0) x xs same in
      let rest : reads_from r n values command (before ++ x ∷ []) ≡ (before ++ x ∷ []) ++ xs =
      reads_again values command n (before ++ x ∷ []) xs in_order.1 (All-tail (λ x. x.1 ≡ values x.0) x xs same) (rw append_assoc ended) (omega arith) in
      ap (λ o. option_map_or (λ part. reads_from r n values command (before ++ (part, values part) ∷ [])) o before) in_order.0
      ∙ ap (λ v. reads_from r n values command (before ++ (x.0, v) ∷ [])) (sym value)
      ∙ rest
      ∙ append_assoc before (x ∷ []) xs

  -- a read that is made now
  pub read_now_is : (h : List (Entry Command Answer)) (part : Part) → IsRead r h (read_now r h part)
  read_now_is h part =
      let whole : take (length h) h ≡ h = take_all (length h) h (omega arith) in
      record { in_history = omega arith; value = ap (λ l. value_of r l part) (sym whole); version = ap (λ l. version_of r l part) (sym whole) }

  -- a read of a history is a read of each longer one
  pub read_longer : (h k : List (Entry Command Answer)) (x : Read Part Value) → IsPrefix h k → IsRead r h x → IsRead r k x
  read_longer h k x begins made =
      let within : x.at ≤ length h = made.in_history in
      let cut : take x.at (h ++ begins.0) ≡ take x.at h = take-append-le x.at h begins.0 within in
      let long : length (h ++ begins.0) ≡ length h + length begins.0 = length-append h begins.0 in
      let P : List (Entry Command Answer) → Type 0 = λ l. IsRead r l x in
      subst P begins.1 (record {
        in_history = omega arith;
        value = made.value ∙ ap (λ l. value_of r l x.part) (sym cut);
        version = made.version ∙ ap (λ l. version_of r l x.part) (sym cut);
      })

  -- a fresh read has the value that the part has now
  pub fresh_value : (h : List (Entry Command Answer)) (x : Read Part Value) → IsRead r h x → IsFresh r h x → x.value ≡ value_of r h x.part
  fresh_value h x made fresh = made.value ∙ sym (unchanged r h x.at x.part made.in_history fresh)

  -- so have the copies of fresh reads
  pub fresh_copies : (h : List (Entry Command Answer)) (reads : List (Read Part Value)) → All (IsRead r h) reads → All (IsFresh r h) reads
      → All (λ x. x.1 ≡ value_of r h x.0) (copies_of reads)
  fresh_copies h [] made fresh = All-nil _
  fresh_copies h (x ∷ xs) made fresh =
      All-cons (λ c. c.1 ≡ value_of r h c.0) (x.part, x.value) (copies_of xs)
      (fresh_value h x (All-head (IsRead r h) x xs made) (All-head (IsFresh r h) x xs fresh))
      (fresh_copies h xs (All-tail (IsRead r h) x xs made) (All-tail (IsFresh r h) x xs fresh))

  -- a command whose reads are all made and all fresh reads the same on the parts as they all are now
  pub reads_now : IsLawful r → (h : List (Entry Command Answer)) (command : Command) (reads : List (Read Part Value)) → AreAllReadsOf r command (copies_of reads)
      → All (IsRead r h) reads → All (IsFresh r h) reads → reads_on r (value_of r h) command ≡ copies_of reads
  reads_now laws h command reads all_read made fresh =
      reads_again (value_of r h) command r.most_reads [] (copies_of reads) all_read.in_order (fresh_copies h reads made fresh) all_read.ended
      (reads_most laws command [] (copies_of reads) tt (omega arith) all_read.in_order)

  -- a settled draft whose reads are all fresh may follow: its answer and its writes are those of the parts as they all are now
  pub may_follow : IsLawful r → (h : List (Entry Command Answer)) (d : DraftView Part Value Command Answer) → MayCommit r h d → MayFollow r h (entry_of r d)
  may_follow laws h d ready =
      record { answer = ap (λ reads. r.answer d.command reads) (sym (reads_now laws h d.command d.reads ready.prepared.all_read ready.prepared.made ready.fresh)) }

  pub may_follow_writes : IsLawful r → (h : List (Entry Command Answer)) (d : DraftView Part Value Command Answer) → MayCommit r h d
      → writes_on r (value_of r h) d.command ≡ (decided r d.command d.reads).writes
  may_follow_writes laws h d ready = ap (λ reads. r.writes d.command reads) (reads_now laws h d.command d.reads ready.prepared.all_read ready.prepared.made ready.fresh)

  -- what is staged of such a draft is what its command writes on the parts as they all are now
  pub staged_writes : IsLawful r → (h : List (Entry Command Answer)) (d : DraftView Part Value Command Answer) → MayCommit r h d → (writes : List (Part × Value))
      → option_map (λ x. x.writes) d.decision ≡ Some writes → writes ≡ writes_on r (value_of r h) d.command
  staged_writes laws h d ready writes staged =
      sym (same_Some _ _ (sym (ap (option_map (λ (x : DecisionView Part Value Answer). x.writes)) ready.prepared.settled) ∙ staged)) ∙ sym (may_follow_writes laws h d ready)

  -- one more copy in the command's order
  pub reads_more : (command : Command) (reads : List (Read Part Value)) (x : Read Part Value) → r.next_part command (copies_of reads) ≡ Some x.part → AreReadsOf r command (copies_of reads)
      → AreReadsOf r command (copies_of (reads ++ x ∷ []))
  reads_more command reads x next in_order = rw map-append (AreReadAfter-push command [] (copies_of reads) (x.part, x.value) in_order next)

  -- a draft of a history that reads its next part as it now is stays one
  pub draft_add : (h : List (Entry Command Answer)) (d : DraftView Part Value Command Answer) (part : Part) (value : Value) (version at : ℕ)
      → at ≡ length h → version ≡ version_of r h part → value ≡ value_of r h part → r.next_part d.command (copies_of d.reads) ≡ Some part → IsDraftOf r h d
      → IsDraftOf r h (record d { reads = d.reads ++ record { part = part; value = value; version = version; at = at } ∷ []; decision = None })
  draft_add h d part value version at at_is version_is value_is next was =
      let x : Read Part Value = record { part = part; value = value; version = version; at = at } in
      let whole : take at h ≡ h = take_all at h (omega arith) in
      let made : IsRead r h x = record {
        in_history = omega arith;
        value = value_is ∙ ap (λ l. value_of r l part) (sym whole);
        version = version_is ∙ ap (λ l. version_of r l part) (sym whole);
      } in
      record {
        in_order = reads_more d.command d.reads x next was.in_order;
        made = All-push (IsRead r h) d.reads x was.made made;
      }

  -- a ready draft that is settled may be committed
  pub settled_ready : (h : List (Entry Command Answer)) (d settled : DraftView Part Value Command Answer) → IsReady r h d
      → settled ≡ record d { decision = Some (decided r d.command d.reads) } → MayCommit r h settled
  settled_ready h d settled ready same =
      let P : DraftView Part Value Command Answer → Type 0 = λ x. MayCommit r h x in
      subst P (sym same) (record { prepared = record { all_read = ready.all_read; made = ready.made; settled = refl }; fresh = ready.fresh })

  -- the entry of a ready draft has the answer of the parts as they all are now
  pub ready_entry : IsLawful r → (h : List (Entry Command Answer)) (d : DraftView Part Value Command Answer) → IsReady r h d → (e : Entry Command Answer) (clerk : ℕ)
      → e.clerk ≡ clerk → e.command ≡ d.command → e.answer ≡ r.answer d.command (copies_of d.reads)
      → e ≡ record { clerk = clerk; command = d.command; answer = answer_on r (value_of r h) d.command }
  ready_entry laws h d ready e clerk clerk_is command_is answer_is =
      ap (λ n. record { clerk = n; command = e.command; answer = e.answer }) clerk_is
      ∙ ap (λ c. record { clerk = clerk; command = c; answer = e.answer }) command_is
      ∙ ap (λ a. record { clerk = clerk; command = d.command; answer = a })
      (answer_is ∙ ap (λ reads. r.answer d.command reads) (sym (reads_now laws h d.command d.reads ready.all_read ready.made ready.fresh)))

  -- so has the entry that is made of the settled draft
  pub settled_entry : IsLawful r → (h : List (Entry Command Answer)) (d settled : DraftView Part Value Command Answer) → IsReady r h d
      → settled ≡ record d { decision = Some (decided r d.command d.reads) } → (e : Entry Command Answer) (clerk : ℕ)
      → e.clerk ≡ clerk → e.command ≡ settled.command → option_map (λ x. x.answer) settled.decision ≡ Some e.answer
      → e ≡ record { clerk = clerk; command = d.command; answer = answer_on r (value_of r h) d.command }
  settled_entry laws h d settled ready same e clerk clerk_is command_is answer_is =
      ready_entry laws h d ready e clerk clerk_is
      (command_is ∙ ap (λ (x : DraftView Part Value Command Answer). x.command) same)
      (same_Some _ _ (sym answer_is ∙ ap (λ (x : DraftView Part Value Command Answer). option_map (λ (y : DecisionView Part Value Answer). y.answer) x.decision) same))

-- versions that agree give the same stale read
pub first_stale_same : {Part Value : Type 0} (f g : Part → ℕ) → ((part : Part) → f part ≡ g part) → (reads : List (Read Part Value)) → first_stale f reads ≡ first_stale g reads
first_stale_same f g same [] = refl
first_stale_same f g same (x ∷ xs) =
    ap (λ n. if nat_lt x.at n then Some (record { part = x.part; version = n }) else first_stale f xs) (same x.part)
    ∙ ap (λ o. if nat_lt x.at (g x.part) then Some (record { part = x.part; version = g x.part }) else o) (first_stale_same f g same xs)

-- no stale read: each part's version is at most the length at its read
pub first_stale_none : {Part Value : Type 0} (f : Part → ℕ) (reads : List (Read Part Value)) → first_stale f reads ≡ None → All (λ x. f x.part ≤ x.at) reads
first_stale_none f [] none = All-nil _
first_stale_none f (x ∷ xs) none =
    (elim (nat_lt x.at (f x.part)) as (λ b. nat_lt x.at (f x.part) ≡ b
    → (if b then Some (record { part = x.part; version = f x.part }) else first_stale f xs) ≡ None → All (λ y. f y.part ≤ y.at) (x ∷ xs)) [
      | true ↦ λ test some. absurd (none-some _ (sym some))
      | false ↦ λ test rest. All-cons (λ y. f y.part ≤ y.at) x xs (ltb-false x.at (f x.part) test) (first_stale_none f xs rest)
    ]) refl none

module _ {Part Value Command Answer : Type 0} (r : Rules Part Value Command Answer) where
  -- the first stale read is what it is called
  pub first_stale_some : (h : List (Entry Command Answer)) (reads : List (Read Part Value)) (s : Stale Part) → first_stale (version_of r h) reads ≡ Some s → IsStale r h reads s.part s.version
  first_stale_some h [] s some = absurd (none-some s some)
  first_stale_some h (x ∷ xs) s some =
      (elim (nat_lt x.at (version_of r h x.part)) as (λ b. nat_lt x.at (version_of r h x.part) ≡ b
      → (if b then Some (record { part = x.part; version = version_of r h x.part }) else first_stale (version_of r h) xs) ≡ Some s → IsStale r h (x ∷ xs) s.part s.version) [
        | true ↦ λ test this.
            let found : record { part = x.part; version = version_of r h x.part } ≡ s = same_Some _ s this in
            let part : x.part ≡ s.part = ap (λ (t : Stale Part). t.part) found in
            let version : version_of r h x.part ≡ s.version = ap (λ (t : Stale Part). t.version) found in
            record {
              earlier = [];
              read = x;
              later = xs;
              in_order = refl;
              earlier_fresh = All-nil _;
              of_part = part;
              touched_later = omega (arith, ltb-true x.at (version_of r h x.part) test, version);
              version_now = sym version ∙ ap (version_of r h) part;
            }
        | false ↦ λ test rest.
            let tail = first_stale_some h xs s rest in
            record {
              earlier = x ∷ tail.earlier;
              read = tail.read;
              later = tail.later;
              in_order = ap (λ l. x ∷ l) tail.in_order;
              earlier_fresh = All-cons (IsFresh r h) x tail.earlier (ltb-false x.at (version_of r h x.part) test) tail.earlier_fresh;
              of_part = tail.of_part;
              touched_later = tail.touched_later;
              version_now = tail.version_now;
            }
      ]) refl some
