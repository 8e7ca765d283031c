-- Which rows made the deadlines of a case what they are: the one that started a deadline, those that extended, reset, ended or
-- resumed it, and the one that recorded its act.
use Rattle.std.specs.Prelude.{ℕ, ◌==◌, List, [], ◌∷◌, ◌++◌, Option, Some, None, codes, option_to_list, if◌then◌else◌}
use Rattle.std.specs.Fmt.{decimal}
use Rattle.std.specs.List.{flat_map}
use Rattle.docket_rows.specs.declared.answer.Answer.{Answer}
use Rattle.docket_rows.specs.declared.answer.Answer.TheVariants as answer
use Rattle.docket_rows.specs.declared.command.Command.{Command as CommandOf}
use Rattle.docket_rows.specs.declared.command.Command.TheVariants as command
use Rattle.docket_rows.specs.declared.fact.Fact.{Fact}
use Rattle.docket_rows.specs.declared.fact.Fact.TheVariants as fact
use Rattle.docket_rows.specs.Words.{CourtSetup, Rows}
use Rattle.docket_rows.specs.declared.command.Counted.TheVariants.{Deadline}
use Rattle.desk_numbers.specs.declared.moved.Moved.{Moved}
use Rattle.desk_numbers.specs.Words.{number_in}
use Rattle.row_forms.specs.declared.numbered.NumberedRow.{NumberedRow}
use Rattle.row_forms.specs.declared.row.Work.{Work}
use Rattle.row_forms.specs.declared.row.Work.TheVariants.{Command, Query}
use Rattle.office_texts.specs.declared.run.reply.Reply.{Reply}
use Rattle.office_texts.specs.declared.run.reply.Reply.TheVariants.{Made, Viewed}
use Rattle.office_texts.specs.Run.Words.{docketed_then, reply_to}
use Rattle.reason_texts.specs.Words.{note_line}
use Rattle.report_memo.specs.declared.sources.Deed.{Deed}
use Rattle.report_memo.specs.declared.sources.Deed.TheVariants.{Started, Extended, Reset, Filed, Ended, Resumed}
use Rattle.report_memo.specs.declared.sources.Source.{Source}

-- a row of that number did this to the deadline of a case, where the case is the one that is asked for
abbrev pub source_if : (asked case : ℕ) → (deadline : ℕ) → Deed → (row : ℕ) → Option Source
source_if asked case deadline deed row = if case == asked then Some (record { deadline = deadline; deed = deed; row = row }) else None

-- what a fact of a case that was so answered did to a deadline of the case that is asked for
abbrev pub source_of_fact : (asked row case : ℕ) → Fact → Answer → Option Source
source_of_fact asked row case (fact.Ended deadline why dated) answer.Ended = source_if asked case deadline Ended row
source_of_fact asked row case (fact.Resumed deadline day dated) (answer.Resumed shown) = source_if asked case deadline Resumed row
source_of_fact asked row case recorded a = None

-- what a command that was so answered did to a deadline of the case that is asked for
abbrev pub source_made : (asked row : ℕ) → CommandOf → Answer → Option Source
source_made asked row (command.Start case period event second service) (answer.Started place shown) = source_if asked case place Started row
source_made asked row (command.Extend case deadline request) (answer.Extended shown) = source_if asked case deadline Extended row
source_made asked row (command.Extend case deadline request) (answer.Reset shown) = source_if asked case deadline Reset row
source_made asked row (command.FileAct case deadline filing) (answer.Filed timely) = source_if asked case deadline Filed row
source_made asked row (command.Fact case recorded) a = source_of_fact asked row case recorded a
source_made asked row c a = None

abbrev pub source_in : (asked row : ℕ) → Work → Reply → Option Source
source_in asked row (Command c) (Made a) = source_made asked row c a
source_in asked row (Command c) (Viewed view) = None
source_in asked row (Query query) reply = None

-- what rows did to the deadlines of the case, each as it is answered
unfoldable pub sources_made : CourtSetup → (asked : ℕ) → (docketed : Rows) → List NumberedRow → List Source
sources_made setup asked docketed [] = []
sources_made setup asked docketed (n ∷ rows) =
    option_to_list (source_in asked n.number n.row.work (reply_to setup docketed n.row.work)) ++ sources_made setup asked (docketed_then setup docketed n.row.work) rows

-- what a row did to a deadline of the case, with the number of the deadline, which the docket has by its place
abbrev pub numbered_source : List Moved → (case : ℕ) → Source → Source
numbered_source moved case s = record s { deadline = number_in moved case Deadline s.deadline }

abbrev pub deed_words : Deed → List ℕ
deed_words Started = codes "started by row "
deed_words Extended = codes "extended by row "
deed_words Reset = codes "reset by row "
deed_words Filed = codes "filed by row "
deed_words Ended = codes "ended by row "
deed_words Resumed = codes "resumed by row "

-- `started by row 3`
unfoldable pub source_text : Source → List ℕ
source_text s = deed_words s.deed ++ decimal s.row

-- the line of a row that did something to the deadline of that number
abbrev pub source_line : (deadline : ℕ) → Source → List ℕ
source_line deadline s = if s.deadline == deadline then note_line None (source_text s) (codes "docketed") else []

-- the lines of all of them
unfoldable pub source_lines : (deadline : ℕ) → List Source → List ℕ
source_lines deadline sources = flat_map (source_line deadline) sources
