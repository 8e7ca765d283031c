-- The number that a row gives to the deadline that it starts, or to the motion that it enters.
use Rattle.std.specs.Prelude.{ℕ, ◌-◌, ◌&&◌, Bool, List, Option, Some, None, length, nat_eq, slice_get}
use Rattle.docket_rows.specs.declared.answer.Answer.{Answer}
use Rattle.docket_rows.specs.declared.answer.Answer.TheVariants as answer
use Rattle.docket_rows.specs.declared.command.Command.{Command}
use Rattle.docket_rows.specs.declared.command.Command.TheVariants as command
use Rattle.docket_rows.specs.Words.{are_alike}
use Rattle.row_forms.specs.declared.row.Work.{Work}
use Rattle.row_forms.specs.declared.row.Work.TheVariants as work
use Rattle.office_texts.specs.declared.run.reply.Reply.{Reply}
use Rattle.office_texts.specs.declared.run.reply.Reply.TheVariants.{Made}
use Rattle.docket_rows.specs.declared.command.Counted.{Counted}
use Rattle.docket_rows.specs.declared.command.Counted.TheVariants.{Deadline, Motion}
use Rattle.desk_numbers.specs.declared.given.Given.{Given}

-- it is of that case and kind
abbrev pub is_of : (case : ℕ) → Counted → Given → Bool
is_of case counted given = nat_eq given.case case && are_alike given.counted counted

-- what the last of rows gave, where these are by row what rows gave
abbrev pub or_none : Option (Option Given) → Option Given
or_none None = None
or_none (Some given) = given

abbrev pub last_given : List (Option Given) → Option Given
last_given given = or_none (slice_get given (length given - 1))

-- the number that the answer to a command gives, if it gives one
abbrev pub given_to : Command → Answer → Option Given
given_to (command.Start case period event second service) (answer.Started deadline shown) = Some (record { case = case; counted = Deadline; number = deadline })
given_to (command.Motion case served need) (answer.MotionEntered motion) = Some (record { case = case; counted = Motion; number = motion })
given_to other made = None

-- the number that a reply gives
unfoldable pub given_by : Work → Reply → Option Given
given_by (work.Command command) (Made answer) = given_to command answer
given_by asked reply = None
