use Rattle.std.proofs.Common.{sym, subst}
use Rattle.desk_journal.specs.Words.{batch_of}
use Rattle.desk_program.specs.declared.as_of.Moment.{Moment}
use Rattle.desk_program.specs.AsOf.{IsKeptAt}
use Rattle.desk_program.proofs.as_of.kept_at.Goals as goal

pub returns-in-Row : goal.returns-in-Row
returns-in-Row c =
    subst (λ (m : Moment). IsKeptAt m (batch_of c.args.entries.now) c.args.stamps.now c.kept_at_row.result) (sym c.in-Row.is) (c.kept_at_row.ensures c.args.stamps.now)
