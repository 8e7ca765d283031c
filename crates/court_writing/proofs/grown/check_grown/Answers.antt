use Rattle.court_days.specs.Words.{file_of}
use Rattle.court_writing.specs.Update.{IsGrown}
use Rattle.court_writing.proofs.grown.check_grown.Goals as goal

pub returns-in-None-clause-grown : goal.returns-in-None-clause-grown
returns-in-None-clause-grown c =
    let grown : IsGrown c.args.state c.args.before.now _ c.days-days.result.now = record {
      from = c.is_span.ensures.from c.if-not-is_span.false;
      to = c.is_span.ensures.to c.if-not-is_span.false;
      kept = c.first_other.ensures c.in-None.is;
    } in
    (file_of c.in-Ok.court, c.in-Ok.ensures, rw c.days-days.ensures at grown)
