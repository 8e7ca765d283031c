-- The rows of a line, one after another, and its faults.
use Rattle.std.proofs.Common.{◌≡◌, ◌∙◌, ◌+◌, ◌<◌, ℕ, List, [], ◌∷◌, ◌++◌, Vec, length, map, take, refl, sym, ap, append_assoc, append-nil}
use Rattle.std.specs.Prelude.{get_or}
use Rattle.std.specs.List.{flat_map}
use Rattle.std.specs.declared.alloc.Global.{Global}
use Rattle.std.proofs.lemmas.Grind.{flat_map-append}
use Rattle.std.proofs.lemmas.List.{map-append, take_more}
use Rattle.desk_journal.specs.Words.{batch_of}
use Rattle.row_written.specs.declared.fault.Fault.{Fault}
use Rattle.row_written.specs.Words.{FieldFault, fault_in}
use Rattle.row_input.specs.LineRows.{first_faults}
use Rattle.row_input.specs.Reading.{FaultyText, faulty_as, faulty_line}

-- the rows so far, and one more
rows_more : (rows : List (Vec ℕ Global)) (i : ℕ) (row : Vec ℕ Global) → i < length rows → row ≡ get_or rows i row → batch_of (take (i + 1) rows) ≡ batch_of (take i rows) ++ row.items ∷ []
rows_more rows i row there at =
    ap batch_of (take_more rows i row there)
    ∙ map-append (λ (r : Vec ℕ Global). r.items) (take i rows) (get_or rows i row ∷ [])
    ∙ ap (λ (r : Vec ℕ Global). batch_of (take i rows) ++ r.items ∷ []) (sym at)

-- what is written of each of them after what was there, and of one more
pub each_more : (said : List ℕ → List ℕ) (before so_far : List ℕ) (rows : List (Vec ℕ Global)) (i : ℕ) (row : Vec ℕ Global) → i < length rows → row ≡ get_or rows i row
    → so_far ≡ before ++ flat_map said (batch_of (take i rows)) → so_far ++ said row.items ≡ before ++ flat_map said (batch_of (take (i + 1) rows))
each_more said before so_far rows i row there at is =
    ap (λ (l : List ℕ). l ++ said row.items) is
    ∙ append_assoc before (flat_map said (batch_of (take i rows))) (said row.items)
    ∙ ap (λ (l : List ℕ). before ++ (flat_map said (batch_of (take i rows)) ++ l)) (sym (append-nil (said row.items)))
    ∙ ap (λ (l : List ℕ). before ++ l) (sym (flat_map-append said (batch_of (take i rows)) (row.items ∷ [])))
    ∙ ap (λ (l : List (List ℕ)). before ++ flat_map said l) (sym (rows_more rows i row there at))

-- the faults of the first row that has some
pub first_none : (found : List Fault) (more : List FieldFault) → found ≡ [] → more ≡ first_faults (map fault_in found) more
first_none found more is = rw is refl

pub first_some : (found : List Fault) (more : List FieldFault) → (found ≡ [] → ⊥) → map fault_in found ≡ first_faults (map fault_in found) more
first_some [] more some = absurd (some refl)
first_some (fault ∷ found) more some = refl

-- a line without faults is none of those that have some
pub faulty_none : (number : ℕ) (line mark : List ℕ) (faults : List Fault) (before : List FaultyText) → faults ≡ [] → before ≡ before ++ faulty_as number line mark (map fault_in faults)
faulty_none number line mark faults before is = rw is (sym (append-nil before))

pub faulty_some : (number : ℕ) (line mark : List ℕ) (faults : List Fault) → (faults ≡ [] → ⊥) → faulty_line number line mark (map fault_in faults) ∷ [] ≡ faulty_as number line mark (map fault_in faults)
faulty_some number line mark [] some = absurd (some refl)
faulty_some number line mark (fault ∷ faults) some = refl
