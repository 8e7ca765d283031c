use Rattle.row_forms.specs.declared.row.Work.TheVariants as work
use Rattle.clerk_workers.proofs.WorkLemmas.{answers_then}
use Rattle.clerk_workers.proofs.serving.finish.Goals as goal

pub returns-in-Some : goal.returns-in-Some
returns-in-Some g c =
    answers_then g.L.NamesOffice.setup c.args.seat.now c.loop-try.seat (work.Command c.args.command.now) c.in-Some.result c.attempt.new.seat c.loop-try.invariant c.in-Some.ensures.answers

pub returns : goal.returns
returns g c =
    answers_then g.L.NamesOffice.setup c.args.seat.now c.loop-try.seat (work.Command c.args.command.now) c.make.result c.make.new.seat c.loop-try.invariant c.make.ensures
