-- The numbers and the names of the faults of a court's file.
use Rattle.std.specs.Prelude.{ℕ, List, ◌++◌, codes}
use Rattle.court_file_text.specs.declared.fault.CourtFault.{CourtFault}
use Rattle.court_file_text.specs.declared.fault.CourtFault.TheVariants.{NotToml, Missing, WrongKind, BadDate, BadZone, BadHours, BadSpan, BadName, TwiceNamed, TooMany, OutOfMemory}
use Rattle.court_file_text.specs.Key.{key_name}

-- the number and the name of a fault, and the key or the text that it names
abbrev pub court_fault_text : CourtFault → List ℕ
court_fault_text NotToml = codes "1 NotToml"
court_fault_text (Missing key) = codes "2 Missing " ++ key_name key
court_fault_text (WrongKind key) = codes "3 WrongKind " ++ key_name key
court_fault_text (BadDate text) = codes "4 BadDate " ++ text
court_fault_text BadZone = codes "5 BadZone"
court_fault_text BadHours = codes "6 BadHours"
court_fault_text BadSpan = codes "7 BadSpan"
court_fault_text (BadName text) = codes "8 BadName " ++ text
court_fault_text (TwiceNamed text) = codes "9 TwiceNamed " ++ text
court_fault_text (TooMany key) = codes "10 TooMany " ++ key_name key
court_fault_text OutOfMemory = codes "11 OutOfMemory"
