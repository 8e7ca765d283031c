use Rattle.std.proofs.Common.{ap}
use Rattle.program_streams.specs.Words.{watched}
use Rattle.docket.proofs.SessionLemmas.{turn_promised}
use Rattle.docket.proofs.turn.turn_at.Goals as goal

pub returns-clause-promised : goal.returns-clause-promised
returns-clause-promised g c =
    turn_promised g.D.Disk c.args.desk c.hold_back.new.self c.kept-ended.new.desk c.leave-left.result.1 c.args.asked.now.held_back (watched c.gathered-said.result).items (watched c.kept-ended.new.writer).items _
    c.hold_back.ensures.keeps (ap (λ d. d.standing) c.hold_back.ensures.docketed) c.hold_back.ensures.held c.gathered-said.ensures.empty c.leave-left.ensures.disk c.kept-ended.ensures.promised
