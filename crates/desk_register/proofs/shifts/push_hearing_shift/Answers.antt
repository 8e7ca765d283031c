use Rattle.std.proofs.Common.{◌∙◌, ◌++◌, ℕ, List, append-nil, sym, ap, string_bytes}
use Rattle.docket_rows.specs.declared.sheet.SheetHearing.{SheetHearing}
use Rattle.desk_register.specs.Same.{is_same_day}
use Rattle.desk_register.proofs.SameLemmas.{same_day_line}
use Rattle.desk_register.proofs.shifts.push_hearing_shift.Goals as goal

pub returns-then-is_same_day : goal.returns-then-is_same_day
returns-then-is_same_day c =
    let h = c.args.hearing.now in
    let same = ap (λ (s : SheetHearing). is_same_day s.affidavits h.affidavits) (sym c.hearing_by-had.ensures) ∙ sym c.is_same_day.ensures ∙ c.if-is_same_day.true in
    sym (ap (λ (l : List ℕ). string_bytes c.args.text.now ++ l) (same_day_line c.args.court.now c.args.before.now c.args.cases.now.named c.args.case c.args.number h same) ∙ append-nil _)
