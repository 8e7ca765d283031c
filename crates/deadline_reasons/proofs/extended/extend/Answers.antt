use Rattle.deadline_reasons.proofs.extended.extend.Goals as goal

pub returns-in-ByDays : goal.returns-in-ByDays
returns-in-ByDays c = λ grants. rw c.in-ByDays.is (c.more_days.ensures c.args.clock.now grants)

pub returns-in-ByHours : goal.returns-in-ByHours
returns-in-ByHours c = λ grants. rw c.in-ByHours.is (c.more_hours.ensures grants)

pub returns-in-Until : goal.returns-in-Until
returns-in-Until c = λ grants. rw c.in-Until.is (c.until.ensures c.args.days.now c.args.clock.now c.args.end grants)

pub returns-in-Reset : goal.returns-in-Reset
returns-in-Reset c = λ grants. rw c.in-Reset.is (c.to_day.ensures c.args.days.now c.args.clock.now c.args.row.now c.args.end grants)

pub returns-in-ResetAt : goal.returns-in-ResetAt
returns-in-ResetAt c = λ grants. rw c.in-ResetAt.is (c.to_time.ensures c.args.days.now c.args.row.now c.args.end grants)
