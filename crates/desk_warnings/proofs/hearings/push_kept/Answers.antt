use Rattle.desk_warnings.proofs.hearings.push_kept.Goals as goal

pub returns-in-Holiday-HearingThatDay : goal.returns-in-Holiday-HearingThatDay
returns-in-Holiday-HearingThatDay c setup = rw (c.in-Holiday-HearingThatDay.is-0, c.in-Holiday-HearingThatDay.is-1) (c.push_said.ensures setup)
