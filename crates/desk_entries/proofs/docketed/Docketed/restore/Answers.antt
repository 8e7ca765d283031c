use Rattle.std.proofs.Common.{◌≡◌, ◌∙◌, ℕ, List, true, false, ap, inl, length, sym, subst}
use Rattle.court_days.specs.Words.{CourtView}
use Rattle.desk_register.specs.declared.standing.Standing.{Standing}
use Rattle.desk_register.specs.Words.{SaysCourt, StandsAt, can_restore, row_restored, standing_file}
use Rattle.desk_entries.proofs.FaultyLemmas.{bad_note}
use Rattle.desk_entries.proofs.DocketedLemmas.{can_be_restored, docketed_note}
use Rattle.desk_register.proofs.CallerLemmas.{length_batch}
use Rattle.desk_entries.proofs.docketed.Docketed.restore.Goals as goal

pub returns-then-not-is_struck-clause-cause : goal.returns-then-not-is_struck-clause-cause
returns-then-not-is_struck-clause-cause c = λ before entry parts some is.
    let cannot : can_restore before c.args.restore ≡ false = sym (can_be_restored c.args.self.now before c.args.restore is) ∙ sym c.is_struck.ensures ∙ c.if-not-is_struck.true in
    bad_note before entry (row_restored c.args.restore) (length c.args.entries.now) some (sym (length_batch c.args.entries.now) ∙ ap length parts) (inl cannot)

pub returns-clause-can : goal.returns-clause-can
returns-clause-can c = λ before is. sym (can_be_restored c.args.self.now before c.args.restore is) ∙ sym c.is_struck.ensures ∙ c.if-not-is_struck.false

pub returns-clause-docketed : goal.returns-clause-docketed
returns-clause-docketed c = λ before entry parts some says is.
    let can : can_restore before c.args.restore ≡ true = sym (can_be_restored c.args.self.now before c.args.restore is) ∙ sym c.is_struck.ensures ∙ c.if-not-is_struck.false in
    let same = c.correct.ensures.standing in
    docketed_note c.args.self.now _ before entry (row_restored c.args.restore) is some can says
    (subst (λ (court : CourtView). SaysCourt (standing_file before) court) (sym (ap (λ (u : Standing). u.court) same)) is.standing.court)
    (ap (λ (u : Standing). u.corrections) same ∙ c.in_ok-corrections.ensures before is.stands.at)
    (subst (λ (e : List (List ℕ)). StandsAt c.correct.new.self.standing c.correct.new.self.register e) parts c.in_ok-correct.ensures.stands)
