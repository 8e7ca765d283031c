use Rattle.std.proofs.Common.{◌≡◌, [], ap, refl, rules, subst, sym}
use Rattle.desk_numbers.specs.Strikes.Words.{CorrectionsView}
use Rattle.desk_entries.specs.declared.what_stands.Walk.{Walk}
use Rattle.desk_register.specs.Words.{SaysCourt}
use Rattle.desk_register.proofs.CallerLemmas.{standing_first}
use Rattle.desk_entries.proofs.WalkLemmas.{first_walked}
use Rattle.desk_entries.proofs.what_stands.Walk.begin.Goals as goal

pub returns-clause-walked : goal.returns-clause-walked
returns-clause-walked c =
    let walk : Walk = record { court = c.in_ok-court.court; corrections = c.new.result; kept = c.new-2.result; rows = 0 } in
    let empty : c.new-2.result.items ≡ [] = search rules in
    first_walked walk c.args.file.now (subst (λ f. SaysCourt f c.in_ok-court.court) (sym (standing_first c.args.file.now)) c.in_ok-court.ensures.court)
    (ap (λ (s : CorrectionsView). s.struck) c.new.ensures) empty refl
