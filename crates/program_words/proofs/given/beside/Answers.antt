use Rattle.clap.specs.declared.error.kind.ErrorKind.TheVariants.{MissingRequiredArgument}
use Rattle.program_words.proofs.FaultLemmas.{beside_fault}
use Rattle.program_words.proofs.given.beside.Goals as goal

pub returns-in-Ok : goal.returns-in-Ok
returns-in-Ok c =
    beside_fault c.args.is_given c.args.has_other c.mistake.result c.if-has_other.false c.if-not-is_given.false (c.mistake.ensures MissingRequiredArgument ((λ e. cc e), (λ e. cc e), (λ e. cc e)))
