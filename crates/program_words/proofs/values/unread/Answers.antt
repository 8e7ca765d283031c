use Rattle.clap.specs.declared.error.kind.ErrorKind.TheVariants.{ValueValidation}
use Rattle.program_words.proofs.values.unread.Goals as goal

pub returns-in-Ok : goal.returns-in-Ok
returns-in-Ok c = c.mistake.ensures ValueValidation ((λ e. cc e), (λ e. cc e), (λ e. cc e))
