-- The faults of a later part of a text.
use Rattle.std.specs.Prelude.{ℕ, ◌+◌, if◌then◌else◌, nat_le}
use Rattle.row_forms.specs.declared.fault.RowCause.TheVariants.{TooManyRows}
use Rattle.row_forms.specs.declared.fault.RowError.{RowError}
use Rattle.row_forms.specs.declared.fault.RowError.TheVariants.{Fault, OutOfMemory}
use Rattle.row_forms.specs.Words.{most_rows}

-- what an error of a later part is in the whole, of which that many rows come before it
abbrev pub error_after : ℕ → RowError → RowError
error_after before (Fault number cause) = if nat_le (before + number) most_rows then Fault (before + number) cause else Fault (most_rows + 1) TooManyRows
error_after before OutOfMemory = OutOfMemory
