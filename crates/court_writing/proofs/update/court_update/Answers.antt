use Rattle.std.proofs.lemmas.Result.{IfOk-weaker}
use Rattle.court_days.specs.Words.{file_of}
use Rattle.court_writing.proofs.update.court_update.Goals as goal

pub returns-in-Ok-clause-updated : goal.returns-in-Ok-clause-updated
returns-in-Ok-clause-updated c =
    IfOk-weaker c.update_of.result _ _ (λ updated is. (file_of c.in-Ok.court, c.in-Ok.ensures, is)) c.update_of.ensures.updated

pub returns-in-Ok-clause-refused : goal.returns-in-Ok-clause-refused
returns-in-Ok-clause-refused c = rw c.in-Ok.ensures c.update_of.ensures.refused
