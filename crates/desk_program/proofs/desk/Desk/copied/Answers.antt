use Rattle.desk_journal.specs.Words.{batch_of}
use Rattle.desk_program.proofs.desk.Desk.copied.Goals as goal

pub returns-in-Ok-open-clause-opened : goal.returns-in-Ok-open-clause-opened
returns-in-Ok-open-clause-opened g c = λ clean.
    let opened = c.in-Ok-open.ensures.opened c.args.file.now c.in-Ok.ensures clean in
    (batch_of c.in-Ok-open.field-0-1.items, opened.0, opened.1)

pub returns-in-Ok-open-clause-whole : goal.returns-in-Ok-open-clause-whole
returns-in-Ok-open-clause-whole g c = λ clean. c.in-Ok-open.ensures.whole c.args.file.now c.in-Ok.ensures clean

pub returns-clause-cause : goal.returns-clause-cause
returns-clause-cause g c = λ clean. (g.D.Disk.faults c.write_copy.new.disk, c.in-Err-open.ensures.cause c.args.file.now c.in-Ok.ensures clean)
