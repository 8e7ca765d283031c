-- The docket of a court as commands over parts.
use Rattle.docket_rows.specs.declared.answer.Answer.{Answer}
use Rattle.docket_rows.specs.declared.command.Command.{Command}
use Rattle.docket_rows.specs.declared.part.PartId.{PartId}
use Rattle.docket_rows.specs.declared.part.PartValue.{PartValue}
use Rattle.docket_rows.specs.Words.{CourtSetup, opening_rows, part_value, parts_of, parts_read, same_part, next_part, answered, written_on}
use Rattle.docket_laws.specs.Words.{most_reads}
use Rattle.versioned_steps.specs.Words.{Rules}
use Rattle.shared_docket.specs.SameAnswer.{same_answer}

-- a command reads the parts of the docket one after another, and its answer and its writes rest on them alone
unfoldable pub docket_rules : CourtSetup → Rules PartId PartValue Command Answer
docket_rules setup = record {
  opening = part_value (parts_of (opening_rows setup));
  next_part = next_part setup;
  answer = λ command reads. answered setup (parts_read setup reads) command;
  writes = written_on setup;
  same_part = same_part;
  same_answer = same_answer;
  most_reads = most_reads setup;
}
