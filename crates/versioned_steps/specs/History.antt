-- The words of a history: what each part is after it, which of its entries touch a part, and when it is legal.
use Rattle.std.specs.Prelude.{◌≡◌, ℕ, zero, suc, ◌+◌, ◌-◌, ◌<◌, ◌≤◌, Bool, true, ◌&&◌, if◌then◌else◌, Option, List, [], ◌∷◌, ◌++◌, length, take, slice_get, is_some, unwrap_or, IfSome}
use Rattle.std.specs.Option.{option_map_or}
use Rattle.std.specs.Map.{lookup}
use Rattle.versioned_steps.specs.Rules.{Rules}
use Rattle.versioned_steps.specs.declared.entry.Entry.{Entry}

module _ {Part Value Command Answer : Type 0} (r : Rules Part Value Command Answer) where
  -- the value that is written for the part, if it is among these writes
  abbrev pub write_to : Part → List (Part × Value) → Option Value
  write_to part writes = lookup (r.same_part part) writes

  -- the values of all parts after these writes
  abbrev pub written : (Part → Value) → List (Part × Value) → Part → Value
  written values writes part = unwrap_or (write_to part writes) (values part)

  -- what a command has read after further reads of these values, no more than this number
  unfoldable pub reads_from : ℕ → (Part → Value) → Command → List (Part × Value) → List (Part × Value)
  reads_from zero values command reads = reads
  reads_from (suc more) values command reads =
      option_map_or (λ part. reads_from more values command (reads ++ (part, values part) ∷ [])) (r.next_part command reads) reads

  -- all that a command reads where the parts have these values, in order
  abbrev pub reads_on : (Part → Value) → Command → List (Part × Value)
  reads_on values command = reads_from r.most_reads values command []

  -- what is answered, and what is written, where a command is decided alone on these values
  abbrev pub answer_on : (Part → Value) → Command → Answer
  answer_on values command = r.answer command (reads_on values command)

  abbrev pub writes_on : (Part → Value) → Command → List (Part × Value)
  writes_on values command = r.writes command (reads_on values command)

  -- a command decided on these values touches the part: it writes it
  abbrev pub touches : (Part → Value) → Command → Part → Bool
  touches values command part = is_some (write_to part (writes_on values command))

  -- the values after the commands of these entries, in order
  unfoldable pub values_after : (Part → Value) → List (Entry Command Answer) → Part → Value
  values_after values [] = values
  values_after values (e ∷ es) = values_after (written values (writes_on values e.command)) es

  -- the value of a part after a history: what the last entry that touches it wrote, else its opening value
  abbrev pub value_of : List (Entry Command Answer) → Part → Value
  value_of history = values_after r.opening history

  -- the place of the last entry that touches the part, where `place` entries come before these and `last` is the place of the last of them
  -- to touch it
  unfoldable pub last_touch : (Part → Value) → ℕ → ℕ → List (Entry Command Answer) → Part → ℕ
  last_touch values place last [] part = last
  last_touch values place last (e ∷ es) part =
      last_touch (written values (writes_on values e.command)) (place + 1) (if touches values e.command part then place + 1 else last) es part

  -- the version of a part: the length of the history just after the last entry that wrote it, 0 at first
  abbrev pub version_of : List (Entry Command Answer) → Part → ℕ
  version_of history part = last_touch r.opening 0 0 history part

  -- each answer is the decision's, on the values as the entries before it left them
  unfoldable pub is_legal_from : (Part → Value) → List (Entry Command Answer) → Bool
  is_legal_from values [] = true
  is_legal_from values (e ∷ es) = r.same_answer e.answer (answer_on values e.command) && is_legal_from (written values (writes_on values e.command)) es

  abbrev pub is_legal : List (Entry Command Answer) → Bool
  is_legal history = is_legal_from r.opening history

  -- the entry may come next: its answer is the decision's on the parts as they all are after the history
  pub record MayFollow (history : List (Entry Command Answer)) (e : Entry Command Answer) : Type 0 where
    pub answer : e.answer ≡ answer_on (value_of history) e.command

  -- the entry at this place (the first is at 1) touches the part
  abbrev pub TouchesAt : List (Entry Command Answer) → ℕ → Part → Type 0
  TouchesAt history place part = IfSome (slice_get history (place - 1)) (λ e. touches (value_of (take (place - 1) history)) e.command part ≡ true)

  -- this is the place of the last entry that touches the part, or 0 where there is none
  pub record IsLastTouch (history : List (Entry Command Answer)) (part : Part) (place : ℕ) : Type 0 where
    pub in_history : place ≤ length history
    pub touched : 0 < place → TouchesAt history place part
    pub none_later : (later : ℕ) → place < later → later ≤ length history → TouchesAt history later part → ⊥
