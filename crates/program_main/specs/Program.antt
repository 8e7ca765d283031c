-- What the status with which a program ends says of its words and of its run.
use Rattle.std.specs.Prelude.{◌≡◌, ◌⊎◌, ℕ, Bool, List, [], Option, None, Result, Ok, Err, String, string_bytes, true, IfOk, IfErr, IsOkAnd}
use Rattle.std.specs.Io.KnownBytes.{Appends}
use Rattle.std.specs.declared.alloc.Global.{Global}
use Rattle.clap.specs.Words.{Kinds, Text}
use Rattle.program_main.specs.declared.options.fault.OptionsFault.{OptionsFault}
use Rattle.program_main.specs.declared.options.fault.OptionsFault.TheVariants.{Help, OutOfMemory}
use Rattle.program_main.specs.Options.Words.{IsAnswerFor}
use Rattle.program_streams.specs.Words.{AppendsFront}
use Rattle.program_runs.specs.declared.fault.OfficeFault.TheVariants.{WriteFault}
use Rattle.program_runs.specs.Words.{HasFaultTold, Input, IsReportRun, court_part, input_of}

-- what reading the words answers: a report that they choose, or one of their faults, unless memory runs out; help and version
-- are among the faults
pub record AnswersWords {R : Type 0} (faults_of : List Text → Kinds) (takes : List Text → Bool) (IsChosen : List Text → R → Type 0) (words : List Text) (answer : Result R OptionsFault) : Type 0 where
  pub chosen : IfOk answer (IsChosen words)
  pub faults : IsAnswerFor (faults_of words) answer
  pub taken : takes words ≡ true → IfErr answer (λ fault. fault ≡ OutOfMemory)

-- reading the words may give such a text, and this is so of it
pub record WithText {R : Type 0} (faults_of : List Text → Kinds) (takes : List Text → Bool) (IsChosen : List Text → R → Type 0) (words : List Text) (fault_with : String Global → OptionsFault) (IsSo : List ℕ → Type 0) : Type 0 where
  pub text : String Global
  pub answer : AnswersWords faults_of takes IsChosen words (Err (fault_with text))
  pub is_so : IsSo (string_bytes text)

-- the words have no fault and choose a report, and this is so of it
pub record WithReport {R : Type 0} (faults_of : List Text → Kinds) (IsChosen : List Text → R → Type 0) (words : List Text) (IsSo : R → Type 0) : Type 0 where
  pub report : R
  pub faultless : faults_of words ≡ []
  pub chosen : IsChosen words report
  pub is_so : IsSo report

-- no report ever says that what is asked for isn't there
abbrev pub NeverMiss : {R : Type 0} → (IsMissing : R → (file : List ℕ) → Input → List ℕ → Type 0) → Type 0
NeverMiss {R} IsMissing = (report : R) (file : List ℕ) (input : Input) (line : List ℕ) → IsMissing report file input line → ⊥

-- the input has no fault, and standard error was given the line that says what isn't there of what is asked for
pub record IsMissed (IsMissing : (file : List ℕ) → Input → List ℕ → Type 0) (clerks : ℕ) (IsGivenErrors : List ℕ → Type 0) (input : List ℕ) : Type 0 where
  pub line : List ℕ
  pub missing : IsOkAnd (input_of clerks input) (λ said. IsMissing (court_part input) said line)
  pub told : IsGivenErrors line

-- 0 says that the help or the version, which the words ask for, was written, or that all rows were answered; 2 that the
-- court's file has a fault and 3 that a row has one, whose line is written; 4 that nothing was written, or that writing
-- stopped within what was to be written; 6 that what is asked for isn't there. A report says how many clerks there are.
pub record IsEnding {R : Type 0} (faults_of : List Text → Kinds) (takes : List Text → Bool) (IsChosen : List Text → R → Type 0) (clerk_count : R → ℕ) (IsText IsMissing : R → (file : List ℕ) → Input → List ℕ → Type 0)
    (words : List Text) (old new : Option (List ℕ)) (IsGivenErrors : List ℕ → Type 0) (status : ℕ) (input : List ℕ) : Type 0 where
  pub answered : status ≡ 0 → WithText faults_of takes IsChosen words Help (Appends old new)
      ⊎ WithReport faults_of IsChosen words (λ report. IsReportRun (clerk_count report) (IsText report) (IsMissing report) old new (Ok None) input)
  pub faulty : (status ≡ 2) ⊎ (status ≡ 3)
      → WithReport faults_of IsChosen words (λ report. HasFaultTold status IsGivenErrors (input_of (clerk_count report) input))
  pub cut : status ≡ 4 → WithText faults_of takes IsChosen words Help (AppendsFront old new)
      ⊎ ((new ≡ old) ⊎ WithReport faults_of IsChosen words (λ report. IsReportRun (clerk_count report) (IsText report) (IsMissing report) old new (Err WriteFault) input))
  pub missed : status ≡ 6 → WithReport faults_of IsChosen words (λ report. IsMissed (IsMissing report) (clerk_count report) IsGivenErrors input)
