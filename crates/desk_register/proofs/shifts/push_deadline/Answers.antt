use Rattle.std.proofs.Common.{◌≡◌, ◌∙◌, ◌++◌, ℕ, List, append-nil, sym, ap, string_bytes}
use Rattle.court_clock.specs.Words.{ClockView}
use Rattle.rule6.specs.declared.timeliness.Shown.{Shown}
use Rattle.rule_periods.specs.Words.{shown_of}
use Rattle.desk_register.specs.Same.{is_same_end}
use Rattle.desk_register.proofs.SameLemmas.{same_end_line}
use Rattle.desk_register.proofs.shifts.push_deadline.Goals as goal

pub returns-then-is_same_end : goal.returns-then-is_same_end
returns-then-is_same_end c =
    let d = c.args.deadline.now in
    let court = c.args.court.now in
    let before = c.args.before.now in
    let had : c.shown-had.result ≡ shown_of before court.clock d.row = c.shown-had.ensures ∙ ap (λ (clock : ClockView). shown_of before clock d.row) c.clock.ensures in
    let same = ap (λ (s : Shown). is_same_end s d.shown) (sym had) ∙ sym c.is_same_end.ensures ∙ c.if-is_same_end.true in
    sym (ap (λ (l : List ℕ). string_bytes c.args.text.now ++ l) (same_end_line court before c.args.cases.now.named c.args.case d same) ∙ append-nil _)
