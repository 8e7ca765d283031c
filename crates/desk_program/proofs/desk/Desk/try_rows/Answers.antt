use Rattle.desk_program.proofs.desk.Desk.try_rows.Goals as goal

pub returns-clause-tried : goal.returns-clause-tried
returns-clause-tried g c = λ kept keeps. c.answer-ended.ensures.answered kept keeps.docketed.stands

pub returns-clause-front : goal.returns-clause-front
returns-clause-front g c = λ kept keeps. c.answer-ended.ensures.front kept keeps.docketed.stands

pub returns-clause-tally : goal.returns-clause-tally
returns-clause-tally g c = λ kept keeps. c.answer-ended.ensures.tally kept keeps.docketed.stands
