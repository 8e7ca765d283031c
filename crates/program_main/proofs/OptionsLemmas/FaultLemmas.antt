-- From the kind of a parse's error to the fault that it becomes.
use Rattle.std.proofs.Common.{◌≡◌, ◌⊎◌, ◌∙◌, [], inl, inr, refl, subst, sym}
use Rattle.clap.specs.Kinds.{IsAmong, Kinds}
use Rattle.clap.specs.declared.error.kind.ErrorKind.{ErrorKind}
use Rattle.clap.specs.declared.error.kind.ErrorKind.TheVariants as kind
use Rattle.program_main.specs.Options.Kinds.{IsFaultAmong, IsFaultOf}
use Rattle.program_main.specs.declared.options.fault.OptionsFault.{OptionsFault}
use Rattle.program_main.specs.declared.options.fault.OptionsFault.TheVariants.{BadWords, Help, OutOfMemory}

-- an error of one of the kinds, or for want of memory, becomes one of their faults
pub fault_among : (k : ErrorKind) (kinds : Kinds) (fault : OptionsFault) → (k ≡ kind.OutOfMemory) ⊎ IsAmong k kinds → IsFaultOf k fault → IsFaultAmong kinds fault
fault_among k kinds (BadWords text) (inl memory) is = absurd (is.2 memory)
fault_among k kinds (BadWords text) (inr among) is = (k, among, is)
fault_among k kinds (Help text) (inl memory) (inl help) =
    let bad : kind.DisplayHelp ≡ kind.OutOfMemory = sym help ∙ memory in
    cc
fault_among k kinds (Help text) (inl memory) (inr version) =
    let bad : kind.DisplayVersion ≡ kind.OutOfMemory = sym version ∙ memory in
    cc
fault_among k kinds (Help text) (inr among) (inl help) = inl (subst (λ (x : ErrorKind). IsAmong x kinds) help among)
fault_among k kinds (Help text) (inr among) (inr version) = inr (subst (λ (x : ErrorKind). IsAmong x kinds) version among)
fault_among k kinds OutOfMemory any is = tt

-- an error for want of memory becomes no other fault
pub only_memory : (k : ErrorKind) (fault : OptionsFault) → k ≡ kind.OutOfMemory → IsFaultOf k fault → fault ≡ OutOfMemory
only_memory k (BadWords text) memory is = absurd (is.2 memory)
only_memory k (Help text) memory (inl help) =
    let bad : kind.DisplayHelp ≡ kind.OutOfMemory = sym help ∙ memory in
    cc
only_memory k (Help text) memory (inr version) =
    let bad : kind.DisplayVersion ≡ kind.OutOfMemory = sym version ∙ memory in
    cc
only_memory k OutOfMemory memory is = refl

-- words with no fault get no fault but want of memory
pub none_among : (fault : OptionsFault) → IsFaultAmong [] fault → fault ≡ OutOfMemory
none_among (BadWords text) is = absurd is.1
none_among (Help text) (inl none) = absurd none
none_among (Help text) (inr none) = absurd none
none_among OutOfMemory is = refl
