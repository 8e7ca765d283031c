-- How the program ends that has a fault.
use Rattle.std.proofs.Common.{◌≡◌, ◌≢◌, ◌<◌, ◌⊎◌, ℕ, Bool, List, [], Option, Some, None, Err, IfSome, inl, inr, arith}
use Rattle.clap.specs.Words.{Kinds, Text}
use Rattle.program_runs.specs.declared.fault.OfficeFault.{OfficeFault}
use Rattle.program_runs.specs.declared.fault.OfficeFault.TheVariants.{Court, Row, ReadFault, WriteFault, OutOfMemory}
use Rattle.program_runs.specs.Words.{HasFaultTold, Input, IsReportRun, IsTold, IsToldAs, input_of}
use Rattle.program_runs.proofs.CallerLemmas.{told_as, told_is_below_6, told_is_past_1}
use Rattle.program_main.specs.Program.{IsEnding, WithReport}

module _ {R : Type 0} (faults_of : List Text → Kinds) (takes : List Text → Bool) (IsChosen : List Text → R → Type 0) (clerk_count : R → ℕ) (IsText IsMissing : R → (file : List ℕ) → Input → List ℕ → Type 0) (words : List Text) (report : R) (faultless : faults_of words ≡ []) (chosen : IsChosen words report) (old new : Option (List ℕ)) (G : List ℕ → Type 0) (status : ℕ) where
  -- the words choose the report
  chosen_report : {IsSo : R → Type 0} → IsSo report → WithReport faults_of IsChosen words IsSo
  chosen_report is_so = record { report = report; faultless = faultless; chosen = chosen; is_so = is_so }

  -- with 2 or 3 the line of the input's fault is written
  faulty_if_told : (fault : OfficeFault) (input : List ℕ) → IsReportRun (clerk_count report) (IsText report) (IsMissing report) old new (Err fault) input → IsToldAs fault status G → (status ≡ 2) ⊎ (status ≡ 3) → HasFaultTold status G (input_of (clerk_count report) input)
  faulty_if_told (Court fault) input run told two_or_three = record { fault = Court fault; has = run; told = told }
  faulty_if_told (Row number cause) input run told two_or_three = record { fault = Row number cause; has = run; told = told }
  faulty_if_told ReadFault input run told (inl two) = absurd (omega (arith, two, told.numbered))
  faulty_if_told ReadFault input run told (inr three) = absurd (omega (arith, three, told.numbered))
  faulty_if_told WriteFault input run told (inl two) = absurd (omega (arith, two, told.numbered))
  faulty_if_told WriteFault input run told (inr three) = absurd (omega (arith, three, told.numbered))
  faulty_if_told OutOfMemory input run told (inl two) = absurd (omega (arith, two, told.numbered))
  faulty_if_told OutOfMemory input run told (inr three) = absurd (omega (arith, three, told.numbered))

  faulty : (fault : OfficeFault) (input : List ℕ) → IsReportRun (clerk_count report) (IsText report) (IsMissing report) old new (Err fault) input → IsToldAs fault status G ⊎ IsToldAs OutOfMemory status G → (status ≡ 2) ⊎ (status ≡ 3) → HasFaultTold status G (input_of (clerk_count report) input)
  faulty fault input run (inl told) two_or_three = faulty_if_told fault input run told two_or_three
  faulty fault input run (inr memory) (inl two) = absurd (omega (arith, two, memory.numbered))
  faulty fault input run (inr memory) (inr three) = absurd (omega (arith, three, memory.numbered))

  -- nothing is written, but where a write failed
  cut : (fault : OfficeFault) (input : List ℕ) → IsReportRun (clerk_count report) (IsText report) (IsMissing report) old new (Err fault) input → (fault ≢ WriteFault → new ≡ old) → (new ≡ old) ⊎ WithReport faults_of IsChosen words (λ r. IsReportRun (clerk_count r) (IsText r) (IsMissing r) old new (Err WriteFault) input)
  cut (Court fault) input run nothing = inl (nothing (λ e. cc e))
  cut (Row number cause) input run nothing = inl (nothing (λ e. cc e))
  cut ReadFault input run nothing = inl (nothing (λ e. cc e))
  cut WriteFault input run nothing = inr (chosen_report run)
  cut OutOfMemory input run nothing = inl (nothing (λ e. cc e))

  ends_with_fault : (fault : OfficeFault) (input : List ℕ) → IsReportRun (clerk_count report) (IsText report) (IsMissing report) old new (Err fault) input → (fault ≢ WriteFault → new ≡ old) → IsTold fault status G → IsEnding faults_of takes IsChosen clerk_count IsText IsMissing words old new G status input
  ends_with_fault fault input run nothing told =
      let past : 1 < status = told_is_past_1 fault status G told in
      record {
        answered = λ e. absurd (omega (arith, e, past));
        faulty = λ two_or_three. chosen_report (faulty fault input run (told_as fault status G told) two_or_three);
        cut = λ four. inr (cut fault input run nothing);
        missed = λ six. absurd (omega (arith, six, told_is_below_6 fault status G told));
      }

  -- where the input is known
  pub ends_if_known : (fault : OfficeFault) (input : Option (List ℕ)) → IfSome input (IsReportRun (clerk_count report) (IsText report) (IsMissing report) old new (Err fault)) → (fault ≢ WriteFault → new ≡ old) → IsTold fault status G → IfSome input (IsEnding faults_of takes IsChosen clerk_count IsText IsMissing words old new G status)
  ends_if_known fault None run nothing told = tt
  ends_if_known fault (Some input) run nothing told = ends_with_fault fault input run nothing told
