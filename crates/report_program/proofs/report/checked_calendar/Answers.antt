use Rattle.std.proofs.Common.{ap}
use Rattle.case_numbers.specs.Words.{CasesView}
use Rattle.report_program.proofs.report.checked_calendar.Goals as goal

pub returns : goal.returns
returns c = rw (ap (λ (cases : CasesView). cases.named) c.new-cases.ensures, c.new-moved.ensures, c.new-called.ensures, c.none-past.ensures, c.deref.ensures.value, c.in_ok-rows.ensures, c.as_slice.ensures.value) at c.report_of.ensures
