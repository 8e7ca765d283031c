-- The faults of words.
use Rattle.std.proofs.Common.{[], ◌∷◌, inl, inr}
use Rattle.clap.specs.Kinds.{Kinds, or_else}
use Rattle.program_main.specs.declared.options.fault.OptionsFault.{OptionsFault}
use Rattle.program_main.specs.declared.options.fault.OptionsFault.TheVariants.{BadWords, Help, OutOfMemory}
use Rattle.program_main.specs.Options.Words.{IsFaultAmong}

-- a fault of the first kinds is one of those that come first
pub first_fault : (kinds next : Kinds) (fault : OptionsFault) → IsFaultAmong kinds fault → IsFaultAmong (or_else kinds next) fault
first_fault (k ∷ ks) next fault among = among
first_fault [] next (BadWords text) among = absurd among.1
first_fault [] next (Help text) (inl none) = absurd none
first_fault [] next (Help text) (inr none) = absurd none
first_fault [] next OutOfMemory among = tt
