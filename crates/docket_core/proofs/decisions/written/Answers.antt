use Rattle.docket_rows.specs.Words.{parts_read}
use Rattle.docket_core.specs.Inside.Written.{written_into}
use Rattle.docket_core.proofs.WrittenLemmas.{written_step}
use Rattle.docket_core.proofs.decisions.written.Goals as goal

pub loop-read-preserved : goal.loop-read-preserved
loop-read-preserved c =
    written_step (written_into (parts_read c.args.rules.now c.args.reads.now) c.args.command.now) c.args.reads.now c.loop-read.read-index c.read-item.result c.in_ok-write.write c.loop-read.writes.items _ c.loop-read-test.true c.read-item.is c.loop-read.invariant c.in_ok-write.ensures c.in_ok-push_if.ensures
