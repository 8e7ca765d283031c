-- The faults of words.
use Rattle.std.proofs.Common.{◌≡◌, Bool, true, false, [], ◌∷◌, Result, Ok, Err, inl, inr, refl, subst}
use Rattle.std.specs.Prelude.{IfErr}
use Rattle.clap.specs.Kinds.{Kinds, or_else}
use Rattle.clap.specs.declared.error.kind.ErrorKind.TheVariants.{ArgumentConflict, MissingRequiredArgument}
use Rattle.program_main.specs.declared.options.fault.OptionsFault.{OptionsFault}
use Rattle.program_main.specs.declared.options.fault.OptionsFault.TheVariants.{BadWords, Help, OutOfMemory}
use Rattle.program_main.specs.Options.Words.{IsAnswerFor, IsFaultAmong}
use Rattle.program_main.proofs.OptionsLemmas.FaultLemmas.{none_among}
use Rattle.program_words.specs.Asked.{are_none}
use Rattle.program_words.specs.Given.{faults_beside, faults_together}

-- what is given alone and counts beside another has that fault
pub beside_fault : (given other : Bool) (fault : OptionsFault) → other ≡ false → given ≡ true → IsFaultAmong (MissingRequiredArgument ∷ []) fault → IsFaultAmong (faults_beside given other) fault
beside_fault true false fault alone is among = among
beside_fault true true fault alone is among = cc
beside_fault false other fault alone is among = cc

-- what is given with another with which it doesn't go has that fault
pub together_fault : (given other : Bool) (fault : OptionsFault) → given ≡ true → other ≡ true → IsFaultAmong (ArgumentConflict ∷ []) fault → IsFaultAmong (faults_together given other) fault
together_fault true true fault one both among = among
together_fault true false fault one both among = cc
together_fault false other fault one both among = cc

-- where words have no fault, memory alone can be wanting
pub only_memory_left : {T : Type 0} (kinds : Kinds) (answer : Result T OptionsFault) → kinds ≡ [] → IsAnswerFor kinds answer → IfErr answer (λ fault. fault ≡ OutOfMemory)
only_memory_left kinds (Ok it) none is = tt
only_memory_left kinds (Err fault) none is = none_among fault (subst (λ (kinds : Kinds). IsFaultAmong kinds fault) none is)

-- a fault of what is looked at first is one of it and of what comes after it
pub first_fault : (kinds next : Kinds) (fault : OptionsFault) → IsFaultAmong kinds fault → IsFaultAmong (or_else kinds next) fault
first_fault [] next (BadWords text) (k, among, mistake) = absurd among
first_fault [] next (Help text) (inl among) = absurd among
first_fault [] next (Help text) (inr among) = absurd among
first_fault [] next OutOfMemory among = tt
first_fault (k ∷ ks) next fault among = among

false_is_true : false ≡ true → ⊥
false_is_true e = cc

-- a list that is empty
pub none_in : (kinds : Kinds) → are_none kinds ≡ true → kinds ≡ []
none_in [] is = refl
none_in (k ∷ ks) is = absurd (false_is_true is)
