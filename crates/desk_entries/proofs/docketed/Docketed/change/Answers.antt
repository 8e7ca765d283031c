use Rattle.std.proofs.Common.{◌∙◌, ◌++◌, ◌∷◌, ℕ, List, [], ap, sym, subst}
use Rattle.desk_register.specs.declared.standing.Standing.{Standing}
use Rattle.desk_register.specs.Words.{SaysCourt, StandsAt, court_file}
use Rattle.desk_entries.proofs.DocketedLemmas.{docketed_note}
use Rattle.desk_register.proofs.CallerLemmas.{file_noted}
use Rattle.desk_entries.proofs.docketed.Docketed.change.Goals as goal

pub returns-clause-docketed : goal.returns-clause-docketed
returns-clause-docketed c = λ before entry parts some says is.
    let then : Standing = record { court = c.in_ok-court.court; corrections = c.in_ok-corrections.corrections } in
    docketed_note c.args.self.now _ before entry (court_file c.args.file.now) is (file_noted entry c.args.file.now some) (c.in_ok-court.court, c.in_ok-court.ensures.court) says
    (subst (λ (u : Standing). SaysCourt c.args.file.now u.court) (sym (c.decide.ensures.standing ∙ c.replace.ensures.after)) c.in_ok-court.ensures.court)
    (ap (λ (u : Standing). u.corrections) (c.decide.ensures.standing ∙ c.replace.ensures.after) ∙ c.in_ok-corrections.ensures before is.stands.at)
    (subst (λ (u : Standing). StandsAt u c.decide.new.self.register (before ++ entry ∷ [])) (sym c.decide.ensures.standing)
    (subst (λ (e : List (List ℕ)). StandsAt c.replace.new.dest c.decide.new.self.register e) parts c.in_ok-decide.ensures.stands))
