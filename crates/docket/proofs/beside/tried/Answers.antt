use Rattle.std.proofs.Common.{◌≡◌}
use Rattle.std.proofs.lemmas.Option.{IfSome_then}
use Rattle.desk_session.specs.Words.{lines_of, tally_of}
use Rattle.desk_program.specs.Words.{leaves_at, outcome_at}
use Rattle.docket.proofs.SessionLemmas.{with_tally}
use Rattle.docket.proofs.beside.tried.Goals as goal

pub returns-in-Ok-clause-tally : goal.returns-in-Ok-clause-tally
returns-in-Ok-clause-tally g c = λ kept keeps.
    let counted = rw (c.in-Ok.is, c.new-reader.ensures.inner) at (c.try_rows-ended.ensures.tally kept keeps) in
    IfSome_then (g.R.Read.remaining c.args.reader) counted
    (λ input is. with_tally (λ tally. tally ≡ tally_of (leaves_at c.args.desk) (outcome_at c.args.desk) kept (lines_of input)) c.in-Ok.tally c.taken.result c.taken.ensures.none c.taken.ensures.some is)
