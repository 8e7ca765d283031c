use Rattle.std.proofs.Common.{◌≡◌, ◌∙◌, ◌∷◌, [], true, false, ap, inl, length-append, subst, sym}
use Rattle.desk_numbers.specs.Strikes.Words.{CorrectionsView}
use Rattle.desk_register.specs.Words.{SaysCourt, can_strike, row_struck, standing_file}
use Rattle.desk_entries.proofs.FaultyLemmas.{bad_note}
use Rattle.desk_entries.proofs.WalkLemmas.{can_be_struck, walked_note}
use Rattle.desk_entries.proofs.what_stands.Walk.strike.Goals as goal

pub returns-then-not-can_strike-clause-cause : goal.returns-then-not-can_strike-clause-cause
returns-then-not-can_strike-clause-cause c = λ before is counted some.
    let cannot : can_strike before c.args.strike ≡ false = sym (can_be_struck c.args.self.now before c.args.strike is) ∙ sym c.can_strike.ensures ∙ c.if-not-can_strike.true in
    bad_note before c.args.entry.now (row_struck c.args.strike) c.args.number some (counted ∙ sym (length-append before (c.args.entry.now ∷ []))) (inl cannot)

pub returns-clause-walked : goal.returns-clause-walked
returns-clause-walked c = λ before is some.
    let can : can_strike before c.args.strike ≡ true = sym (can_be_struck c.args.self.now before c.args.strike is) ∙ sym c.can_strike.ensures ∙ c.if-not-can_strike.false in
    walked_note c.args.self.now c.say.new.self before c.args.entry.now (row_struck c.args.strike) is some can
    (subst (SaysCourt (standing_file before)) (sym c.say.ensures.court) is.court)
    (ap (λ (s : CorrectionsView). s.struck) (c.say.ensures.corrections ∙ c.in_ok-strike.ensures.ok))
    c.in_ok-say.ensures.kept
    c.say.ensures.rows
