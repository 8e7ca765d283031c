use Rattle.std.proofs.Common.{inl, refl}
use Rattle.clap.specs.declared.error.kind.ErrorKind.TheVariants.{ValueValidation}
use Rattle.program_main.proofs.texts.taken.no_count.Goals as goal

pub returns-in-Ok : goal.returns-in-Ok
returns-in-Ok c = (ValueValidation, inl refl, ((λ e. cc e), (λ e. cc e), (λ e. cc e)))
