use Rattle.std.proofs.Common.{◌≡◌, ◌∙◌, ℕ, List, true, false, ap, inl, length, sym, subst}
use Rattle.court_days.specs.Words.{CourtView}
use Rattle.desk_register.specs.declared.standing.Standing.{Standing}
use Rattle.desk_register.specs.Words.{SaysCourt, StandsAt, can_strike, row_struck, standing_file}
use Rattle.desk_entries.proofs.FaultyLemmas.{bad_note}
use Rattle.desk_entries.proofs.DocketedLemmas.{can_is, docketed_note}
use Rattle.desk_register.proofs.CallerLemmas.{length_batch}
use Rattle.desk_entries.proofs.docketed.Docketed.strike.Goals as goal

pub returns-then-not-can_strike-clause-cause : goal.returns-then-not-can_strike-clause-cause
returns-then-not-can_strike-clause-cause c = λ before entry parts some is.
    let cannot : can_strike before c.args.strike ≡ false = sym (can_is c.args.self.now before c.args.strike c.next_number-next.result is (c.next_number-next.ensures c.args.self.now.standing before is.stands.at)) ∙ sym c.can_strike.ensures ∙ c.if-not-can_strike.true in
    bad_note before entry (row_struck c.args.strike) (length c.args.entries.now) some (sym (length_batch c.args.entries.now) ∙ ap length parts) (inl cannot)

pub returns-clause-can : goal.returns-clause-can
returns-clause-can c = λ before is. sym (can_is c.args.self.now before c.args.strike c.next_number-next.result is (c.next_number-next.ensures c.args.self.now.standing before is.stands.at)) ∙ sym c.can_strike.ensures ∙ c.if-not-can_strike.false

pub returns-clause-docketed : goal.returns-clause-docketed
returns-clause-docketed c = λ before entry parts some says is.
    let can : can_strike before c.args.strike ≡ true = sym (can_is c.args.self.now before c.args.strike c.next_number-next.result is (c.next_number-next.ensures c.args.self.now.standing before is.stands.at)) ∙ sym c.can_strike.ensures ∙ c.if-not-can_strike.false in
    let same = c.correct.ensures.standing in
    docketed_note c.args.self.now _ before entry (row_struck c.args.strike) is some can says
    (subst (λ (court : CourtView). SaysCourt (standing_file before) court) (sym (ap (λ (u : Standing). u.court) same)) is.standing.court)
    (ap (λ (u : Standing). u.corrections) same ∙ c.in_ok-corrections.ensures before is.stands.at)
    (subst (λ (e : List (List ℕ)). StandsAt c.correct.new.self.standing c.correct.new.self.register e) parts c.in_ok-correct.ensures.stands)
