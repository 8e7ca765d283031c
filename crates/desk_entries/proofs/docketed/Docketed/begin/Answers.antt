use Rattle.std.proofs.Common.{ap, subst, sym}
use Rattle.court_days.specs.Words.{CourtView}
use Rattle.desk_register.specs.declared.standing.Standing.{Standing}
use Rattle.desk_register.specs.Words.{SaysCourt}
use Rattle.desk_entries.proofs.DocketedLemmas.{first_docketed}
use Rattle.desk_register.proofs.CallerLemmas.{first_history}
use Rattle.desk_entries.proofs.docketed.Docketed.begin.Goals as goal

pub returns-clause-docketed : goal.returns-clause-docketed
returns-clause-docketed c =
    let is = c.in_ok-docketed.ensures.standing in
    first_docketed c.in_ok-docketed.docketed c.args.file.now (subst (λ (court : CourtView). SaysCourt c.args.file.now court) (sym (ap (λ (u : Standing). u.court) is)) c.in_ok-court.ensures.court) (ap (λ (u : Standing). u.corrections) is)
    (c.in_ok-docketed.ensures.stands c.args.file.now)

pub returns-clause-history : goal.returns-clause-history
returns-clause-history c = first_history c.args.file.now c.in_ok-court.court c.in_ok-court.ensures.court
