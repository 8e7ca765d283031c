-- What an entry after the first is.
use Rattle.std.specs.Prelude.{Option, Some, None}
use Rattle.desk_entries.specs.Words.{Note, court_file, row_restored, row_struck}
use Rattle.desk_program.specs.declared.entry_kind.EntryKind.{EntryKind}
use Rattle.desk_program.specs.declared.entry_kind.EntryKind.TheVariants.{CourtFile, Restore, Row, Strike}

abbrev pub kind_of : Option Note → EntryKind
kind_of None = Row
kind_of (Some (court_file file)) = CourtFile
kind_of (Some (row_struck strike)) = Strike strike.row
kind_of (Some (row_restored restore)) = Restore restore.row
