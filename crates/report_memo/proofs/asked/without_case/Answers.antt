use Rattle.std.proofs.Common.{inl, refl}
use Rattle.clap.specs.declared.error.kind.ErrorKind.TheVariants.{MissingRequiredArgument}
use Rattle.report_memo.proofs.asked.without_case.Goals as goal

pub returns-in-Ok : goal.returns-in-Ok
returns-in-Ok c = (MissingRequiredArgument, inl refl, ((λ e. cc e), (λ e. cc e), (λ e. cc e)))
