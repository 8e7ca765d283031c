-- Deadlines that rows started once and start no more, since their rows are struck, or refused now. A row keeps the number of its deadline.
use Rattle.std.specs.Prelude.{ℤ, List, Option, None, option_map}
use Rattle.rule6.specs.declared.timeliness.Shown.TheVariants.{Beyond}
use Rattle.rule_periods.specs.declared.period.Period.{Period}
use Rattle.docket_rows.specs.declared.answer.Answer.TheVariants.{Refused}
use Rattle.docket_rows.specs.declared.command.Command.{Command as CommandOf}
use Rattle.docket_rows.specs.declared.command.Command.TheVariants.{Start}
use Rattle.docket_rows.specs.declared.sheet.State.TheVariants.{Pending}
use Rattle.docket_selection.specs.declared.item.DueItem.{DueItem}
use Rattle.docket_selection.specs.declared.item.Matter.TheVariants.{Deadline}
use Rattle.row_forms.specs.declared.numbered.NumberedRow.{NumberedRow}
use Rattle.row_forms.specs.declared.row.Work.{Work}
use Rattle.row_forms.specs.declared.row.Work.TheVariants.{Command, Query}
use Rattle.office_texts.specs.declared.run.reply.Reply.{Reply}
use Rattle.office_texts.specs.declared.run.reply.Reply.TheVariants.{Made}
use Rattle.desk_numbers.specs.declared.given.Given.{Given}
use Rattle.desk_numbers.specs.Words.{kept_of}

-- The deadline to which that number was given, on the day from which it ran: the day on which its time ended isn't known any more.
abbrev pub lost_item : (from : ℤ) → Period → Given → DueItem
lost_item from period g = record {
  day = from;
  second = 0;
  case = g.case;
  number = g.number;
  matter = Deadline (record { period = period; shown = Beyond; state = Pending; ended = None; other = None });
}

-- what a command started, if it starts a deadline and this number was given to it
abbrev pub lost_start : CommandOf → Option Given → Option DueItem
lost_start (Start case period event second service) given = option_map (lost_item event.day period) given
lost_start command given = None

abbrev pub lost_work : Work → Option Given → Option DueItem
lost_work (Command command) given = lost_start command given
lost_work (Query query) given = None

-- what a row started that starts nothing now, where these are by row what rows gave
abbrev pub lost_by : List (Option Given) → NumberedRow → Option DueItem
lost_by given n = lost_work n.row.work (kept_of given n.number)

-- the same of a row with this reply, if it is refused
abbrev pub lost_if_refused : List (Option Given) → NumberedRow → Reply → Option DueItem
lost_if_refused given n (Made (Refused refusal)) = lost_by given n
lost_if_refused given n reply = None
