-- Works and replies: inside the docket things are counted by their places, and outside they have numbers.
use Rattle.std.specs.Prelude.{ℕ, List, map, Option, option_map}
use Rattle.std.specs.Option.{option_map_or}
use Rattle.hearing_slots.specs.declared.booking.Booking.{Booking}
use Rattle.docket_rows.specs.declared.answer.Answer.{Answer}
use Rattle.docket_rows.specs.declared.answer.Answer.TheVariants as answer
use Rattle.docket_rows.specs.declared.command.Command.{Command}
use Rattle.docket_rows.specs.declared.command.Command.TheVariants as command
use Rattle.docket_rows.specs.declared.command.Subject.{Subject}
use Rattle.docket_rows.specs.declared.fact.Ending.{Ending}
use Rattle.docket_rows.specs.declared.fact.Fact.{Fact}
use Rattle.docket_rows.specs.declared.fact.Fact.TheVariants.{Ended}
use Rattle.docket_rows.specs.declared.refusal.Refusal.{Refusal}
use Rattle.docket_rows.specs.declared.refusal.Refusal.TheVariants.{JudgeBusy, RoomBusy, HearingThatDay, NoticeLost, HearingAhead}
use Rattle.docket_rows.specs.declared.sheet.Sheet.{Sheet}
use Rattle.docket_rows.specs.declared.sheet.SheetDeadline.{SheetDeadline}
use Rattle.docket_rows.specs.declared.sheet.SheetMotion.{SheetMotion}
use Rattle.docket_rows.specs.declared.view.View.{View}
use Rattle.docket_rows.specs.declared.view.View.TheVariants as view
use Rattle.docket_rows.specs.Words.{ending_naming, naming, subject_of, suspended_by}
use Rattle.row_forms.specs.declared.row.Work.{Work}
use Rattle.row_forms.specs.declared.row.Work.TheVariants as work
use Rattle.office_texts.specs.declared.run.reply.Reply.{Reply}
use Rattle.office_texts.specs.declared.run.reply.Reply.TheVariants.{Made, Viewed}
use Rattle.docket_rows.specs.declared.command.Counted.TheVariants.{Deadline, Motion}
use Rattle.desk_numbers.specs.declared.moved.Moved.{Moved}
use Rattle.desk_numbers.specs.Moved.{number_in, place_in}

-- a command with the place of the deadline or the motion that it names
abbrev pub placed_named : List Moved → Command → Command
placed_named moved command =
    option_map_or (λ (s : Subject). naming command (place_in moved s.case s.counted s.number)) (subject_of command) command

-- why a deadline is ended, with the place of the motion that suspends it
abbrev pub placed_ending : List Moved → (case : ℕ) → Ending → Ending
placed_ending moved case why = option_map_or (λ motion. ending_naming why (place_in moved case Motion motion)) (suspended_by why) why

abbrev pub placed_fact : List Moved → (case : ℕ) → Fact → Fact
placed_fact moved case (Ended deadline why dated) = Ended deadline (placed_ending moved case why) dated
placed_fact moved case fact = fact

-- a command with the place of the motion that suspends the deadline that it ends
abbrev pub placed_suspender : List Moved → Command → Command
placed_suspender moved (command.Fact case fact) = command.Fact case (placed_fact moved case fact)
placed_suspender moved other = other

-- a command with the places of all that it names
abbrev pub placed_command : List Moved → Command → Command
placed_command moved command = placed_suspender moved (placed_named moved command)

-- what a row asks for, by places; a query names no deadline and no motion
unfoldable pub placed : List Moved → Work → Work
placed moved (work.Command command) = work.Command (placed_command moved command)
placed moved (work.Query query) = work.Query query

-- the case in which a command starts a deadline or enters a motion
abbrev pub case_of_command : Command → ℕ
case_of_command (command.Start case period event second service) = case
case_of_command (command.Motion case served need) = case
case_of_command other = 0

-- the same of what a row asks for; 0, which no case has, where it asks for neither
abbrev pub case_of : Work → ℕ
case_of (work.Command command) = case_of_command command
case_of (work.Query query) = 0

-- a refusal with the number of the motion that it names
abbrev pub numbered_refusal : List Moved → Refusal → Refusal
numbered_refusal moved (JudgeBusy case motion) = JudgeBusy case (number_in moved case Motion motion)
numbered_refusal moved (RoomBusy case motion) = RoomBusy case (number_in moved case Motion motion)
numbered_refusal moved (HearingThatDay case motion) = HearingThatDay case (number_in moved case Motion motion)
numbered_refusal moved (HearingAhead case motion) = HearingAhead case (number_in moved case Motion motion)
numbered_refusal moved (NoticeLost case motion) = NoticeLost case (number_in moved case Motion motion)
numbered_refusal moved other = other

-- what a command is answered, with the number that is given in this case
abbrev pub numbered_answer : List Moved → (case : ℕ) → Answer → Answer
numbered_answer moved case (answer.Started deadline shown) = answer.Started (number_in moved case Deadline deadline) shown
numbered_answer moved case (answer.MotionEntered motion) = answer.MotionEntered (number_in moved case Motion motion)
numbered_answer moved case (answer.Refused refusal) = answer.Refused (numbered_refusal moved refusal)
numbered_answer moved case other = other

-- why a deadline was ended, with the number of the motion that suspends it
abbrev pub numbered_ending : List Moved → (case : ℕ) → Ending → Ending
numbered_ending moved case why = option_map_or (λ motion. ending_naming why (number_in moved case Motion motion)) (suspended_by why) why

abbrev pub numbered_ended : List Moved → (case : ℕ) → Option Ending → Option Ending
numbered_ended moved case ended = option_map (numbered_ending moved case) ended

abbrev pub numbered_deadline : List Moved → (case : ℕ) → SheetDeadline → SheetDeadline
numbered_deadline moved case d = record d { number = number_in moved case Deadline d.number; ended = numbered_ended moved case d.ended }

abbrev pub numbered_motion : List Moved → (case : ℕ) → SheetMotion → SheetMotion
numbered_motion moved case m = record m { number = number_in moved case Motion m.number }

-- a sheet with the numbers of its deadlines and motions
abbrev pub numbered_sheet : List Moved → Sheet → Sheet
numbered_sheet moved s = record s { deadlines = map (numbered_deadline moved s.case) s.deadlines; motions = map (numbered_motion moved s.case) s.motions }

-- a booking with the number of its motion
abbrev pub numbered_booking : List Moved → Booking → Booking
numbered_booking moved b = record b { motion = number_in moved b.case Motion b.motion }

-- what a query shows, with numbers
abbrev pub numbered_view : List Moved → View → View
numbered_view moved (view.Sheet sheet) = view.Sheet (numbered_sheet moved sheet)
numbered_view moved (view.Bookings bookings) = view.Bookings (map (numbered_booking moved) bookings)
numbered_view moved (view.Computed end) = view.Computed end
numbered_view moved (view.Refused refusal) = view.Refused (numbered_refusal moved refusal)

-- the reply to what a row asks for, with numbers
unfoldable pub numbered : List Moved → Work → Reply → Reply
numbered moved asked (Made answer) = Made (numbered_answer moved (case_of asked) answer)
numbered moved asked (Viewed shown) = Viewed (numbered_view moved shown)
