use Rattle.std.proofs.Common.{refl}
use Rattle.report_program.proofs.opened.closed_in.Goals as goal

pub returns-in-Some : goal.returns-in-Some
returns-in-Some c = λ docketed holds. rw c.in-Some.is (c.closed_unless_shown.ensures docketed holds)

pub returns-in-None : goal.returns-in-None
returns-in-None c = λ docketed holds. rw c.in-None.is refl
