-- The deadline or the motion that a command names by its number, and what it does to the hearing of a motion.
use Rattle.std.specs.Prelude.{ℕ, Bool, true, false, Option, Some, None}
use Rattle.docket_rows.specs.declared.command.Command.{Command}
use Rattle.docket_rows.specs.declared.command.Command.TheVariants.{FileAct, Extend, Book, MoveHearing, Cancel, Fact}
use Rattle.docket_rows.specs.declared.command.Counted.{Counted}
use Rattle.docket_rows.specs.declared.command.Counted.TheVariants.{Deadline, Motion}
use Rattle.docket_rows.specs.declared.command.HearingOrder.{HearingOrder}
use Rattle.docket_rows.specs.declared.command.Subject.{Subject}
use Rattle.docket_rows.specs.declared.fact.Fact.{Fact as FactOf}
use Rattle.docket_rows.specs.declared.fact.Fact.TheVariants.{Ended, Resumed, Closed, Reopened, Ruled, Assigned, Titled, Labelled}
use Rattle.docket_rows.specs.Facts.{fact_naming, fact_subject}

-- both are deadlines, or both are motions
abbrev pub are_alike : Counted → Counted → Bool
are_alike Deadline Deadline = true
are_alike Deadline Motion = false
are_alike Motion Deadline = false
are_alike Motion Motion = true

-- the deadline or the motion that a command names, if it names one
abbrev pub subject_of : Command → Option Subject
subject_of (FileAct case deadline filing) = Some (record { case = case; counted = Deadline; number = deadline })
subject_of (Extend case deadline request) = Some (record { case = case; counted = Deadline; number = deadline })
subject_of (Book s) = Some (record { case = s.case; counted = Motion; number = s.motion })
subject_of (MoveHearing s) = Some (record { case = s.case; counted = Motion; number = s.motion })
subject_of (Cancel case motion) = Some (record { case = case; counted = Motion; number = motion })
subject_of (Fact case fact) = fact_subject case fact
subject_of command = None

-- the same command, with this number for what it names
abbrev pub naming : Command → (number : ℕ) → Command
naming (FileAct case deadline filing) number = FileAct case number filing
naming (Extend case deadline request) number = Extend case number request
naming (Book s) number = Book (record s { motion = number })
naming (MoveHearing s) number = MoveHearing (record s { motion = number })
naming (Cancel case motion) number = Cancel case number
naming (Fact case fact) number = Fact case (fact_naming fact number)
naming command number = command

-- what a fact of a case does to the hearing of a motion: a ruling takes one that is later than it off the calendar
abbrev pub fact_order : (case : ℕ) → FactOf → Option HearingOrder
fact_order case (Ended deadline why dated) = None
fact_order case (Resumed deadline day dated) = None
fact_order case (Closed why dated) = None
fact_order case (Reopened dated) = None
fact_order case (Ruled motion how dated) = Some (record { case = case; motion = motion; setting = None; later_than = Some dated })
fact_order case (Assigned judge referred dated) = None
fact_order case Titled = None
fact_order case (Labelled counted number) = None

-- what a command does to the hearing of a motion: with a setting it sets the hearing so, and without one it takes the
-- hearing off the calendar; none where the command is about no hearing
abbrev pub order_of : Command → Option HearingOrder
order_of (Book s) = Some (record { case = s.case; motion = s.motion; setting = Some s; later_than = None })
order_of (MoveHearing s) = Some (record { case = s.case; motion = s.motion; setting = Some s; later_than = None })
order_of (Cancel case motion) = Some (record { case = case; motion = motion; setting = None; later_than = None })
order_of (Fact case fact) = fact_order case fact
order_of command = None
