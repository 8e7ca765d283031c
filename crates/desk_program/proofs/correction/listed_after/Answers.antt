use Rattle.desk_journal.specs.Words.{batch_of}
use Rattle.desk_program.specs.Inside.Correction.{IsReview}
use Rattle.desk_program.proofs.correction.listed_after.Goals as goal

pub returns-clause-text : goal.returns-clause-text
returns-clause-text c = λ after_is.
    let now_is : IsReview c.args.now.now (batch_of c.args.entries.now) c.in_ok-before.before = record { stands = c.in_ok-before.ensures.stands; changes = c.in_ok-before.ensures.changes } in
    c.listed.ensures.text now_is after_is

pub returns-clause-count : goal.returns-clause-count
returns-clause-count c = λ after_is.
    let now_is : IsReview c.args.now.now (batch_of c.args.entries.now) c.in_ok-before.before = record { stands = c.in_ok-before.ensures.stands; changes = c.in_ok-before.ensures.changes } in
    c.listed.ensures.count now_is after_is
