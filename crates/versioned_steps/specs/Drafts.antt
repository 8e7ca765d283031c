-- A draft: a command in hand with what it has read, and its decision once it is settled.
use Rattle.std.specs.Prelude.{◌≡◌, ℕ, Option, Some, List, [], ◌∷◌, slice_get, All}
use Rattle.versioned_steps.specs.Rules.{Rules, AreReadsOf, AreAllReadsOf}
use Rattle.versioned_steps.specs.Reads.{Read, IsRead, IsFresh, AreAt, copies_of}
use Rattle.versioned_steps.specs.declared.entry.Entry.{Entry}
use Rattle.versioned_steps.specs.declared.decision.PartsDecision.{PartsDecision}
use Rattle.versioned_steps.specs.declared.draft.ReadNote.{ReadNote}

-- what a decision answers and writes
pub record DecisionView (Part Value Answer : Type 0) : Type 0 where
  pub answer : Answer
  pub writes : List (Part × Value)

-- what contracts see of a draft
pub record DraftView (Part Value Command Answer : Type 0) : Type 0 where
  pub clerk : ℕ
  pub command : Command
  pub reads : List (Read Part Value)
  pub decision : Option (DecisionView Part Value Answer)

module _ {Part Value Command Answer : Type 0} (r : Rules Part Value Command Answer) where
  -- the decision of a command that read these: it rests on them alone
  abbrev pub decided : Command → List (Read Part Value) → DecisionView Part Value Answer
  decided command reads = record { answer = r.answer command (copies_of reads); writes = r.writes command (copies_of reads) }

  -- all that the draft has read was read in this history, and in the command's order
  pub record IsDraftOf (history : List (Entry Command Answer)) (d : DraftView Part Value Command Answer) : Type 0 where
    pub in_order : AreReadsOf r d.command (copies_of d.reads)
    pub made : All (IsRead r history) d.reads

  -- it has read all, from this history, and has been settled; reads may have gone stale since
  pub record IsPrepared (history : List (Entry Command Answer)) (d : DraftView Part Value Command Answer) : Type 0 where
    pub all_read : AreAllReadsOf r d.command (copies_of d.reads)
    pub made : All (IsRead r history) d.reads
    pub settled : d.decision ≡ Some (decided d.command d.reads)

  -- it is prepared, and every read is fresh
  pub record MayCommit (history : List (Entry Command Answer)) (d : DraftView Part Value Command Answer) : Type 0 where
    pub prepared : IsPrepared history d
    pub fresh : All (IsFresh r history) d.reads

  -- all that it has read so far was read at the end of this history
  pub record IsReading (history : List (Entry Command Answer)) (d : DraftView Part Value Command Answer) : Type 0 where
    pub reads : IsDraftOf history d
    pub now : AreAt history d.reads

  -- it was prepared at the end of this history, every read at that one moment
  pub record IsReadAll (history : List (Entry Command Answer)) (d : DraftView Part Value Command Answer) : Type 0 where
    pub prepared : IsPrepared history d
    pub now : AreAt history d.reads

  -- the entry that such a draft becomes
  abbrev pub entry_of : DraftView Part Value Command Answer → Entry Command Answer
  entry_of d = record { clerk = d.clerk; command = d.command; answer = (decided d.command d.reads).answer }

module _ {Part Value Command Answer : Type 0} where
  -- in a list of hands, one for each clerk from clerk 0 on, each draft is of the clerk who has it in hand
  abbrev pub AreOwn : List (Option (DraftView Part Value Command Answer)) → Type 0
  AreOwn drafts = (clerk : ℕ) (d : DraftView Part Value Command Answer) → slice_get drafts clerk ≡ Some (Some d) → d.clerk ≡ clerk

-- a draft's copies, each with the numbers noted at its read
abbrev pub with_notes : {Part Value : Type 0} → List (Part × Value) → List ReadNote → List (Read Part Value)
with_notes [] notes = []
with_notes (copy ∷ copies) [] = []
with_notes (copy ∷ copies) (note ∷ notes) =
    record { part = copy.0; value = copy.1; version = note.version; at = note.at } ∷ with_notes copies notes

abbrev pub decision_view : {Part Value Answer : Type 0} → PartsDecision Part Value Answer → DecisionView Part Value Answer
decision_view d = record { answer = d.answer; writes = d.writes.items }
