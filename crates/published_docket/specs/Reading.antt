-- What a reader takes of a docket for a command.
use Rattle.std.specs.Prelude.{◌≡◌, None, List}
use Rattle.docket_rows.specs.declared.answer.Answer.{Answer}
use Rattle.docket_rows.specs.declared.command.Command.{Command}
use Rattle.docket_rows.specs.declared.part.PartId.{PartId}
use Rattle.docket_rows.specs.declared.part.PartValue.{PartValue}
use Rattle.docket_rows.specs.Words.{CourtSetup}
use Rattle.versioned_steps.specs.declared.entry.Entry.{Entry}
use Rattle.versioned_steps.specs.Words.{DraftView, IsReading, copies_of}
use Rattle.shared_docket.specs.Words.{docket_rules}

-- the draft has read all that its command reads, at the end of this history
pub record HasRead (setup : CourtSetup) (history : List (Entry Command Answer)) (d : DraftView PartId PartValue Command Answer) : Type 0 where
  pub reading : IsReading (docket_rules setup) history d
  pub whole : (docket_rules setup).next_part d.command (copies_of d.reads) ≡ None
