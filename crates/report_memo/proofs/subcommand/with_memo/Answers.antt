-- The subcommand has the shape of the definition.
use Rattle.std.proofs.Common.{refl}
use Rattle.std.proofs.lemmas.Result.{IfOk-weaker}
use Rattle.program_main.proofs.ShapeLemmas.{shape_added}
use Rattle.report_memo.specs.CommandLine.{memo_shape}
use Rattle.report_memo.proofs.subcommand.with_memo.Goals as goal

pub returns : goal.returns
returns c = IfOk-weaker c.subcommand.result _ _ (λ whole adds. shape_added _ _ whole _ memo_shape refl refl c.in_ok-memo.ensures adds) c.subcommand.ensures
