use Rattle.clap.specs.declared.error.kind.ErrorKind.TheVariants.{ValueValidation}
use Rattle.program_words.proofs.values.no_court.Goals as goal

pub returns-in-Ok-format : goal.returns-in-Ok-format
returns-in-Ok-format c = c.mistake.ensures ValueValidation ((λ e. cc e), (λ e. cc e), (λ e. cc e))
