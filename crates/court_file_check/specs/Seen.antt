-- A fault as contracts see it.
use Rattle.std.specs.Prelude.{ℕ, Option, string_bytes}
use Rattle.court_file_text.specs.declared.key.Key.{Key}
use Rattle.court_file_text.specs.declared.fault.CourtFault.{CourtFault}
use Rattle.court_file_text.specs.declared.fault.CourtFault.TheVariants as court
use Rattle.court_file_check.specs.declared.faults.Fault.{Fault}
use Rattle.court_file_check.specs.declared.faults.What.{What}
use Rattle.court_file_check.specs.declared.faults.What.TheVariants.{Read, BadName, TwiceNamed}

-- a fault of a court's file: its key, the item of the key's list, if it is at one, and the fault as the clerk's program names it
pub record FaultView : Type 0 where
  pub key : Key
  pub item : Option ℕ
  pub fault : CourtFault

-- the fault as the clerk's program names it
abbrev pub court_fault : What → CourtFault
court_fault (Read fault) = fault
court_fault (BadName text) = court.BadName (string_bytes text)
court_fault (TwiceNamed text) = court.TwiceNamed (string_bytes text)

abbrev pub seen : Fault → FaultView
seen f = record { key = f.key; item = f.item; fault = court_fault f.what }
