use Rattle.clap.specs.declared.error.kind.ErrorKind.TheVariants.{ArgumentConflict}
use Rattle.program_words.proofs.FaultLemmas.{together_fault}
use Rattle.program_words.proofs.given.apart.Goals as goal

pub returns : goal.returns
returns c =
    together_fault c.args.is_given c.args.has_other c.mistake.result c.if-not-is_given.false c.if-not-has_other.false (c.mistake.ensures ArgumentConflict ((λ e. cc e), (λ e. cc e), (λ e. cc e)))
