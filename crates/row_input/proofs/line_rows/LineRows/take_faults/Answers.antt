use Rattle.std.proofs.Common.{map}
use Rattle.row_written.specs.Words.{fault_in}
use Rattle.row_input.proofs.RowLemmas.{first_none, first_some}
use Rattle.row_input.proofs.line_rows.LineRows.take_faults.Goals as goal

pub returns-then-are_none-clause-faults : goal.returns-then-are_none-clause-faults
returns-then-are_none-clause-faults c = first_none c.args.self.now.faults.items (map fault_in c.args.faults.items) (c.are_none.ensures.none c.if-are_none.true)

pub returns-else-are_none-clause-faults : goal.returns-else-are_none-clause-faults
returns-else-are_none-clause-faults c = first_some c.args.self.now.faults.items (map fault_in c.args.faults.items) (c.are_none.ensures.some c.if-are_none.false)
