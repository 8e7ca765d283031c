use Rattle.std.proofs.Common.{codes, List}
use Rattle.std.proofs.lemmas.Result.{err_from_is_err_and}
use Rattle.clap.specs.Words.{Row, first_of, found_of, rows_of}
use Rattle.program_words.specs.AsOf.{report_as_of_faults}
use Rattle.program_words.specs.Task.{folder_given, source_faults}
use Rattle.program_words.proofs.FaultLemmas.{first_fault}
use Rattle.program_words.proofs.tasks.sheet_source.Goals as goal

pub returns-in_err-as_of-clause-faults : goal.returns-in_err-as_of-clause-faults
returns-in_err-as_of-clause-faults c =
    let given : List Row = rows_of (found_of c.args.given.now) in
    let p = err_from_is_err_and c.from_residual.result c.from_residual.ensures.1 in
    rw (p.1, p.2) (first_fault (report_as_of_faults given) (source_faults (folder_given given) (first_of (codes "input") given)) c.in_err-as_of.field-0.0 c.in_err-as_of.ensures.faults)
