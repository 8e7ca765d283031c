use Rattle.std.proofs.Common.{sym}
use Rattle.std.proofs.lemmas.Result.{IfErr-weaker}
use Rattle.desk_entries.specs.Docketed.{IsBadFile, IsFaultyEntry}
use Rattle.desk_entries.proofs.FaultyLemmas.{bad_file}
use Rattle.desk_register.proofs.CallerLemmas.{file_noted}
use Rattle.desk_entries.proofs.what_stands.Walk.take.Goals as goal

pub returns-in-Some-clause-cause : goal.returns-in-Some-clause-cause
returns-in-Some-clause-cause c = λ before is counted.
    IfErr-weaker c.change.result (IsBadFile c.in-Some.file.now c.args.number) (IsFaultyEntry before c.args.entry.now)
    (λ fault bad. bad_file before c.args.entry.now c.in-Some.file.now c.args.number fault is.begun (file_noted c.args.entry.now c.in-Some.file.now (sym c.in-Some.ensures)) counted bad) c.change.ensures.cause
