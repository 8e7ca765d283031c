use Rattle.std.proofs.Common.{◌≡◌, ◌∙◌, ◌∷◌, [], true, false, ap, inl, length-append, subst, sym}
use Rattle.desk_numbers.specs.Strikes.Words.{CorrectionsView}
use Rattle.desk_register.specs.Words.{SaysCourt, can_restore, row_restored, standing_file}
use Rattle.desk_entries.proofs.FaultyLemmas.{bad_note}
use Rattle.desk_entries.proofs.WalkLemmas.{can_be_restored, walked_note}
use Rattle.desk_entries.proofs.what_stands.Walk.restore.Goals as goal

pub returns-then-not-is_struck-clause-cause : goal.returns-then-not-is_struck-clause-cause
returns-then-not-is_struck-clause-cause c = λ before is counted some.
    let cannot : can_restore before c.args.restore ≡ false = sym (can_be_restored c.args.self.now before c.args.restore is) ∙ sym c.is_struck.ensures ∙ c.if-not-is_struck.true in
    bad_note before c.args.entry.now (row_restored c.args.restore) c.args.number some (counted ∙ sym (length-append before (c.args.entry.now ∷ []))) (inl cannot)

pub returns-clause-walked : goal.returns-clause-walked
returns-clause-walked c = λ before is some.
    let can : can_restore before c.args.restore ≡ true = sym (can_be_restored c.args.self.now before c.args.restore is) ∙ sym c.is_struck.ensures ∙ c.if-not-is_struck.false in
    walked_note c.args.self.now c.say.new.self before c.args.entry.now (row_restored c.args.restore) is some can
    (subst (SaysCourt (standing_file before)) (sym c.say.ensures.court) is.court)
    (ap (λ (s : CorrectionsView). s.struck) (c.say.ensures.corrections ∙ c.restore.ensures))
    c.in_ok-say.ensures.kept
    c.say.ensures.rows
