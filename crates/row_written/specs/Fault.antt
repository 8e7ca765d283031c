-- What is wrong with a line.
use Rattle.std.specs.Prelude.{ℕ, List, string_bytes}
use Rattle.row_fields.specs.Words.{place_in, separator_of}
use Rattle.row_written.specs.declared.fault.Fault.{Fault}
use Rattle.row_written.specs.declared.fault.Flaw.{Flaw}

-- what is wrong with a field that begins at that place, the field, and what it may be where it may be two things
pub record FieldFault : Type 0 where
  pub place : ℕ
  pub flaw : Flaw
  pub value : List ℕ
  pub one : List ℕ
  pub other : List ℕ

abbrev pub fault_in : Fault → FieldFault
fault_in fault = record { place = fault.place; flaw = fault.flaw; value = string_bytes fault.value; one = string_bytes fault.one; other = string_bytes fault.other }

-- the fault of the field of that number in a line, counted from 0: its place is where the field begins
abbrev pub fault_at : (text : List ℕ) → (number : ℕ) → Flaw → (value one other : List ℕ) → FieldFault
fault_at text number flaw value one other = record { place = place_in (separator_of text) number text; flaw = flaw; value = value; one = one; other = other }
