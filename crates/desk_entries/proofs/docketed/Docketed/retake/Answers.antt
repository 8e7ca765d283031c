use Rattle.std.proofs.Common.{◌≡◌, ◌∙◌, ap, false, refl, sym}
use Rattle.desk_numbers.specs.Strikes.Words.{is_struck}
use Rattle.desk_register.specs.Words.{IsOtherwise, follows, next_number, number_of_next}
use Rattle.desk_entries.proofs.DocketedLemmas.{docketed_row, row_may_follow}
use Rattle.desk_register.proofs.CallerLemmas.{not_struck, other_of, same_of}
use Rattle.desk_entries.proofs.docketed.Docketed.retake.Goals as goal

pub returns-then-is_next_struck-clause-cause : goal.returns-then-is_next_struck-clause-cause
returns-then-is_next_struck-clause-cause c = λ before is.
    let ready = is.stands in
    let not : is_struck c.args.self.now.standing.corrections (number_of_next c.args.self.now.register) ≡ false =
    ap (is_struck c.args.self.now.standing.corrections) ready.at.number ∙ not_struck c.args.self.now.standing.corrections (next_number before) ready.before in
    cc (not, c.is_next_struck.ensures, c.if-is_next_struck.true)

pub returns-then-is_some-clause-cause : goal.returns-then-is_some-clause-cause
returns-then-is_some-clause-cause c = λ before is.
    let (answer, otherwise) = other_of (follows c.args.self.now.standing before c.args.entry.now) (λ a. IsOtherwise c.args.self.now.standing before c.args.entry.now a.items) c.in_ok-other.other (c.in_ok-other.ensures.other before is.stands.at) (sym c.is_some.ensures ∙ c.if-is_some.true) in
    (c.next_number-number.ensures c.args.self.now.standing before is.stands.at, c.requires.row, (c.args.self.now.standing, is.standing, otherwise.other))

pub returns-clause-docketed : goal.returns-clause-docketed
returns-clause-docketed c = λ before is. docketed_row c.args.self.now _ before c.args.entry.now is c.requires.row refl (c.in_ok-other.ensures.stands before is.stands.at c.requires.row)

pub returns-clause-follows : goal.returns-clause-follows
returns-clause-follows c = λ before is.
    row_may_follow c.args.self.now before c.args.entry.now is c.requires.row
    (same_of (follows c.args.self.now.standing before c.args.entry.now) (λ a. IsOtherwise c.args.self.now.standing before c.args.entry.now a.items) c.in_ok-other.other (c.in_ok-other.ensures.other before is.stands.at) (sym c.is_some.ensures ∙ c.if-is_some.false))
