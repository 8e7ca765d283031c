-- What is made of an input from what was made of it before.
use Rattle.std.proofs.Common.{◌≡◌, Result, Ok, Err, refl}
use Rattle.program_runs.specs.declared.checking.CheckedInput.{CheckedInput}
use Rattle.program_runs.specs.declared.fault.OfficeFault.{OfficeFault}
use Rattle.program_runs.specs.Office.{AnswersInput, Input, IsChecked}
use Rattle.program_runs.specs.Report.{input_checked}

pub made_further : {X Y : Type 0} (Fits : Input → X → Type 0) (FitsNow : Input → Y → Type 0) (x : X) (y : Y) (said : Result Input OfficeFault)
    → ((input : Input) → Fits input x → FitsNow input y) → AnswersInput Fits (Ok x) said → AnswersInput FitsNow (Ok y) said
made_further Fits FitsNow x y (Ok input) further fits = further input fits
made_further Fits FitsNow x y (Err fault) further none = none

-- the input whose court and rows were checked is that of the bytes
pub same_input : (input : Input) (checked : CheckedInput) → IsChecked input checked → input_checked checked ≡ input
same_input input checked is = rw (is.court, is.rows) refl
