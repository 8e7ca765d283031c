-- The cases of the parts after a deadline is resumed: one more fact of its case, and the deadline anew, where it runs so.
use Rattle.std.proofs.Common.{◌≡◌, ◌∙◌, ◌==◌, ℕ, ℤ, Bool, true, false, List, [], ◌∷◌, map, Option, None, if◌then◌else◌, refl, ap}
use Rattle.std.specs.Option.{option_or}
use Rattle.rule_periods.specs.Words.{DeadlineRowView, anew_if}
use Rattle.docket_rows.specs.declared.command.Command.TheVariants as command
use Rattle.docket_rows.specs.declared.fact.Fact.TheVariants.{Resumed}
use Rattle.docket_rows.specs.Words.{CaseRecordView, NumberedDeadline, Rows, add_fact, case_written, change_deadline, parts_of, rows_after, with_changed, with_fact}
use Rattle.docket_laws.proofs.PartsDeadlines.{case_after_change}
use Rattle.docket_laws.proofs.PartsFacts.{case_with_fact}
use Rattle.docket_laws.proofs.PartsRulings.{changed_twice}

pub case_after_resuming : (rows : Rows) (case deadline : ℕ) (day : Option ℤ) (dated : ℤ) (n : ℕ) → (parts_of (rows_after rows (command.Fact case (Resumed deadline day dated)))).case n ≡ option_or (case_written (parts_of rows) (command.Fact case (Resumed deadline day dated)) n) ((parts_of rows).case n)
case_after_resuming rows case deadline day dated n =
    let fact = Resumed deadline day dated in
    let change : DeadlineRowView → DeadlineRowView = λ (row : DeadlineRowView). anew_if row day in
    let recorded = with_fact case fact rows in
    changed_twice (parts_of rows).case (parts_of recorded).case (parts_of (with_changed case deadline change recorded)).case case (add_fact fact) (change_deadline deadline change) (case_with_fact rows case fact) (case_after_change case deadline change recorded) n

-- a deadline that has its days as before stays as it is
same_deadline : (number : ℕ) (d : NumberedDeadline) → (if d.number == number then record d { row = anew_if d.row None } else d) ≡ d
same_deadline number d = by (d.number == number) where
  by : (it : Bool) → (if it then record d { row = anew_if d.row None } else d) ≡ d
  by true = refl
  by false = refl

same_deadlines : (number : ℕ) (ds : List NumberedDeadline) → map (λ (d : NumberedDeadline). if d.number == number then record d { row = anew_if d.row None } else d) ds ≡ ds
same_deadlines number [] = refl
same_deadlines number (d ∷ ds) =
    ap (λ (l : List NumberedDeadline). (if d.number == number then record d { row = anew_if d.row None } else d) ∷ l) (same_deadlines number ds)
    ∙ ap (λ (x : NumberedDeadline). x ∷ ds) (same_deadline number d)

-- and so does its case
pub nothing_anew : (deadline : ℕ) (c : CaseRecordView) → change_deadline deadline (λ (row : DeadlineRowView). anew_if row None) c ≡ c
nothing_anew deadline c = ap (λ (ds : List NumberedDeadline). record c { deadlines = ds }) (same_deadlines deadline c.deadlines)
