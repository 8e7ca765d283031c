-- How commands are decided over parts: what a type that implements `Parted` gives, as plain functions.
use Rattle.std.specs.Prelude.{◌≡◌, ℕ, ◌<◌, Bool, true, Option, Some, None, List, [], ◌∷◌, ◌++◌, length, All, Contains, IsSome, map}
use Rattle.std.specs.List.{IsDistinct}

pub record Rules (Part Value Command Answer : Type 0) : Type 0 where
  pub opening : Part → Value  -- the value of a part before anything was written
  pub next_part : Command → List (Part × Value) → Option Part  -- the part that a command reads after these, or none: it has read all
  pub answer : Command → List (Part × Value) → Answer  -- the answer of a command that read these values
  pub writes : Command → List (Part × Value) → List (Part × Value)  -- the parts that it then writes, with their new values
  pub same_part : Part → Part → Bool
  pub same_answer : Answer → Answer → Bool
  pub most_reads : ℕ  -- no command reads more parts

-- the parts, without their values
abbrev pub parts_named : {Part Value : Type 0} → List (Part × Value) → List Part
parts_named pairs = map (λ pair. pair.0) pairs

module _ {Part Value Command Answer : Type 0} (r : Rules Part Value Command Answer) where
  -- these were read one after another, after those in `before`, and each was the part to read next
  abbrev pub AreReadAfter : Command → List (Part × Value) → List (Part × Value) → Type 0
  AreReadAfter command before [] = Unit {0}
  AreReadAfter command before (x ∷ xs) = (r.next_part command before ≡ Some x.0) × AreReadAfter command (before ++ x ∷ []) xs

  -- these are the first reads of the command: the values may be any, and of different moments
  abbrev pub AreReadsOf : Command → List (Part × Value) → Type 0
  AreReadsOf command reads = AreReadAfter command [] reads

  -- the first reads of the command, after which it has nothing left to read
  pub record AreAllReadsOf (command : Command) (reads : List (Part × Value)) : Type 0 where
    pub in_order : AreReadsOf command reads
    pub ended : r.next_part command reads ≡ None

  -- what every type that implements `Parted` proves of its rules
  pub record IsLawful : Type 0 where
    -- the tests of equality say what they are called
    pub parts_equal : (x y : Part) → r.same_part x y ≡ true → x ≡ y
    pub part_itself : (x : Part) → r.same_part x x ≡ true
    pub answers_equal : (x y : Answer) → r.same_answer x y ≡ true → x ≡ y
    pub answer_itself : (x : Answer) → r.same_answer x x ≡ true
    -- reading ends: where there is a next part, fewer than the most were read
    pub reading_ends : (command : Command) (reads : List (Part × Value)) → AreReadsOf command reads → IsSome (r.next_part command reads) → length reads < r.most_reads
    -- the parts written are among those read, each once
    pub writes_are_read : (command : Command) (reads : List (Part × Value)) → AreAllReadsOf command reads → All (Contains (parts_named reads)) (parts_named (r.writes command reads))
    pub written_once : (command : Command) (reads : List (Part × Value)) → AreAllReadsOf command reads → IsDistinct r.same_part (parts_named (r.writes command reads))
