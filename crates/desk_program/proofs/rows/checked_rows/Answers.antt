use Rattle.std.proofs.Common.{◌≡◌, ◌∙◌, ◌+◌, ◌-◌, ℕ, ap, arith, length}
use Rattle.desk_journal.specs.Words.{batch_of}
use Rattle.desk_entries.specs.Words.{next_number, row_entries}
use Rattle.desk_program.proofs.rows.checked_rows.Goals as goal

pub returns-in-Ok-clause-count : goal.returns-in-Ok-clause-count
returns-in-Ok-clause-count c =
    let next : c.next_number.result ≡ next_number (batch_of c.args.entries.now) = c.next_number.ensures c.in-Ok.docketed.standing (batch_of c.args.entries.now) c.in-Ok.ensures.docketed.stands.at in
    let less : (n : ℕ) → n + 1 - 1 ≡ n = λ n. omega arith in (
      c.in-Ok.ensures.history,
      c.saturating_sub.ensures ∙ ap (λ (n : ℕ). n - 1) next ∙ less (length (row_entries (batch_of c.args.entries.now))),
    )
