use Rattle.std.proofs.Common.{◌∙◌, ap, subst, sym}
use Rattle.desk_numbers.specs.Strikes.Words.{CorrectionsView}
use Rattle.desk_register.specs.Words.{SaysCourt, court_file}
use Rattle.desk_register.proofs.CallerLemmas.{file_noted}
use Rattle.desk_entries.proofs.WalkLemmas.{walked_note}
use Rattle.desk_entries.proofs.what_stands.Walk.change.Goals as goal

pub returns-clause-walked : goal.returns-clause-walked
returns-clause-walked c = λ before is some.
    walked_note c.args.self.now c.say.new.self before c.args.entry.now (court_file c.args.file.now) is (file_noted c.args.entry.now c.args.file.now some)
    (c.in_ok-court.court, c.in_ok-court.ensures.court)
    (subst (SaysCourt c.args.file.now) (sym (c.say.ensures.court ∙ c.replace.ensures.after)) c.in_ok-court.ensures.court)
    (ap (λ (s : CorrectionsView). s.struck) c.say.ensures.corrections)
    c.in_ok-say.ensures.kept
    c.say.ensures.rows
