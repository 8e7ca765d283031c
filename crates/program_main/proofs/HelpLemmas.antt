-- How the program ends that is asked for help.
use Rattle.std.proofs.Common.{◌≡◌, ℕ, Bool, true, false, List, Option, Some, None, Err, IfSome, String, string_bytes, inl, inr, refl, arith}
use Rattle.std.specs.Io.KnownBytes.{Appends}
use Rattle.std.specs.declared.alloc.Global.{Global}
use Rattle.clap.specs.Words.{Kinds, Text}
use Rattle.program_main.specs.declared.options.fault.OptionsFault.TheVariants.{Help}
use Rattle.program_streams.specs.Words.{AppendsFront}
use Rattle.program_runs.specs.Words.{Input}
use Rattle.program_main.specs.Program.{AnswersWords, IsEnding}

-- what is so of all is so of what there is
pub if_any : {A : Type 0} {P : A → Type 0} (o : Option A) → ((x : A) → P x) → IfSome o P
if_any None all = tt
if_any (Some x) all = all x

-- the help is written whole and the status is 0 or, where a write failed, a beginning of it and the status is 4
pub ends_with_help : {R : Type 0} (faults_of : List Text → Kinds) (takes : List Text → Bool) (IsChosen : List Text → R → Type 0) (clerk_count : R → ℕ) (IsText IsMissing : R → (file : List ℕ) → Input → List ℕ → Type 0)
    → (words : List Text) (old new : Option (List ℕ)) (G : List ℕ → Type 0) (status : ℕ) (input : List ℕ) (text : String Global) (failed : Bool)
    → AnswersWords faults_of takes IsChosen words (Err (Help text))
    → (failed ≡ false → Appends old new (string_bytes text)) → (failed ≡ true → AppendsFront old new (string_bytes text))
    → (failed ≡ false → status ≡ 0) → (failed ≡ true → status ≡ 4)
    → IsEnding faults_of takes IsChosen clerk_count IsText IsMissing words old new G status input
ends_with_help faults_of takes IsChosen clerk_count IsText IsMissing words old new G status input text false answer whole front worked not_worked =
    let none : status ≡ 0 = worked refl in
    record {
      answered = λ e. inl (record { text = text; answer = answer; is_so = whole refl });
      faulty = λ e. elim e [
        | inl two ↦ absurd (omega (arith, two, none))
        | inr three ↦ absurd (omega (arith, three, none))
      ];
      cut = λ e. absurd (omega (arith, e, none));
      missed = λ e. absurd (omega (arith, e, none));
    }
ends_with_help faults_of takes IsChosen clerk_count IsText IsMissing words old new G status input text true answer whole front worked not_worked =
    let four : status ≡ 4 = not_worked refl in
    record {
      answered = λ e. absurd (omega (arith, e, four));
      faulty = λ e. elim e [
        | inl two ↦ absurd (omega (arith, two, four))
        | inr three ↦ absurd (omega (arith, three, four))
      ];
      cut = λ e. inl (record { text = text; answer = answer; is_so = front refl });
      missed = λ e. absurd (omega (arith, e, four));
    }

-- nor is it called a mistake
pub not_mistaken : (status : ℕ) (failed : Bool) → (failed ≡ false → status ≡ 0) → (failed ≡ true → status ≡ 4) → status ≡ 1 → ⊥
not_mistaken status false worked not_worked one = omega (arith, worked refl, one)
not_mistaken status true worked not_worked one = omega (arith, not_worked refl, one)
