use Rattle.clap.specs.declared.error.kind.ErrorKind.TheVariants.{MissingRequiredArgument}
use Rattle.program_words.proofs.given.missing.Goals as goal

pub returns-in-Ok : goal.returns-in-Ok
returns-in-Ok c = c.mistake.ensures MissingRequiredArgument ((λ e. cc e), (λ e. cc e), (λ e. cc e))
