use Rattle.std.proofs.Common.{◌∙◌, ◌∷◌, [], ap, length, length-append, sym}
use Rattle.std.proofs.lemmas.Result.{IfErr-weaker}
use Rattle.desk_entries.specs.Docketed.{IsBadFile, IsFaultyEntry}
use Rattle.desk_entries.proofs.FaultyLemmas.{bad_file}
use Rattle.desk_register.proofs.CallerLemmas.{file_noted, length_batch}
use Rattle.desk_entries.proofs.docketed.Docketed.correct_by.Goals as goal

pub returns-in-Some-clause-cause : goal.returns-in-Some-clause-cause
returns-in-Some-clause-cause c = λ before parts is.
    IfErr-weaker c.change.result (IsBadFile c.in-Some.file.now (length c.args.entries.now)) (IsFaultyEntry before c.args.entry.now)
    (λ fault bad. bad_file before c.args.entry.now c.in-Some.file.now (length c.args.entries.now) fault is.stands.at.begun (file_noted c.args.entry.now c.in-Some.file.now (sym c.in-Some.ensures))
    (sym (length_batch c.args.entries.now) ∙ ap length parts ∙ length-append before (c.args.entry.now ∷ [])) bad) c.change.ensures.cause
