use Rattle.clap.specs.declared.error.kind.ErrorKind.TheVariants.{ArgumentConflict, MissingRequiredArgument}
use Rattle.program_words.proofs.tasks.source_of.Goals as goal

pub returns-in-Some-Some-clause-faults : goal.returns-in-Some-Some-clause-faults
returns-in-Some-Some-clause-faults c =
    rw (c.in-Some-Some.is-0, c.in-Some-Some.is-1) (c.mistake.ensures ArgumentConflict ((λ e. cc e), (λ e. cc e), (λ e. cc e)))

pub returns-in-None-None-clause-faults : goal.returns-in-None-None-clause-faults
returns-in-None-None-clause-faults c =
    rw (c.in-None-None.is-0, c.in-None-None.is-1) (c.mistake-in-None-None.ensures MissingRequiredArgument ((λ e. cc e), (λ e. cc e), (λ e. cc e)))
