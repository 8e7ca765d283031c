-- What a command writes into a part that was read.
use Rattle.std.specs.Prelude.{Option, option_map}
use Rattle.docket_rows.specs.declared.command.Command.{Command}
use Rattle.docket_rows.specs.declared.part.PartId.{PartId}
use Rattle.docket_rows.specs.declared.part.PartValue.{PartValue}
use Rattle.docket_rows.specs.Words.{Parts, changed}

-- the part with its new value, if the command changes it
abbrev pub written_into : Parts → Command → PartId × PartValue → Option (PartId × PartValue)
written_into parts command read = option_map (λ v. (read.0, v)) (changed parts command read.0)
