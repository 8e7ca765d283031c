use Rattle.std.proofs.lemmas.Result.{err_from_is_err_and}
use Rattle.court_days.proofs.court.Court.read.Goals as goal

pub returns-in_err-new : goal.returns-in_err-new
returns-in_err-new c =
    let p = err_from_is_err_and c.from_residual-in_err-new.result c.from_residual-in_err-new.ensures.1 in
    rw (p.1, p.2) tt
