-- The replies to rows, with the reasons of each deadline that they show.
use Rattle.std.specs.Prelude.{◌≡◌, ℕ, Bool, true, false, List, [], ◌∷◌, Option, Some, None, ◌++◌, codes, if◌then◌else◌}
use Rattle.court_days.specs.Words.{CourtView}
use Rattle.rule_periods.specs.Words.{DeadlineRowView}
use Rattle.docket_rows.specs.declared.answer.Answer.TheVariants as answer
use Rattle.docket_rows.specs.declared.command.Command.TheVariants as command
use Rattle.docket_rows.specs.declared.fact.Fact.TheVariants as fact
use Rattle.docket_rows.specs.declared.query.Query.{Query as QueryOf}
use Rattle.docket_rows.specs.declared.query.Query.TheVariants as query
use Rattle.docket_rows.specs.declared.sheet.Sheet.{Sheet}
use Rattle.docket_rows.specs.declared.view.View.TheVariants as view
use Rattle.docket_rows.specs.Words.{Rows, setup_of, started}
use Rattle.docket_core.specs.Words.{DocketView}
use Rattle.desk_numbers.specs.Words.{numbered}
use Rattle.row_forms.specs.declared.numbered.NumberedRow.{NumberedRow}
use Rattle.row_forms.specs.declared.row.Work.{Work}
use Rattle.row_forms.specs.declared.row.Work.TheVariants.{Command, Query}
use Rattle.office_texts.specs.declared.run.reply.Reply.{Reply}
use Rattle.office_texts.specs.declared.run.reply.Reply.TheVariants.{Made, Viewed}
use Rattle.office_texts.specs.Run.Words.{Holds, docketed_then, reply_to, row_numbers}
use Rattle.office_texts.specs.Named.Words.{named_line_of}
use Rattle.reason_notes.specs.Readings.Words.{DaysByReadingView}
use Rattle.report_memo.specs.declared.detail.Detail.TheVariants.{Reasons}
use Rattle.report_texts.specs.Words.{LabelsView}
use Rattle.report_memo.specs.Notes.{notes_text}
use Rattle.report_memo.specs.Reasons.{AreReasonsDocketed, AreReasonsIfAny, days_docketed}
use Rattle.report_memo.specs.Sheets.{IsSheet}
use Rattle.report_memo.specs.Texts.{Is, Then}

-- the case and the place of the deadline that was to start and was given that place, and of the one whose time was to be
-- extended or reset
abbrev pub deadline_started : Work → (place : ℕ) → Option (ℕ × ℕ)
deadline_started (Command (command.Start case period event second service)) place = Some (case, place)
deadline_started work place = None

abbrev pub deadline_extended : Work → Option (ℕ × ℕ)
deadline_extended (Command (command.Extend case deadline request)) = Some (case, deadline)
deadline_extended work = None

-- and of the one that was to be resumed
abbrev pub deadline_resumed : Work → Option (ℕ × ℕ)
deadline_resumed (Command (command.Fact case (fact.Resumed deadline day dated))) = Some (case, deadline)
deadline_resumed work = None

-- the case and the place of the docketed deadline whose end a reply says
abbrev pub deadline_told : Work → Reply → Option (ℕ × ℕ)
deadline_told work (Made (answer.Started place shown)) = deadline_started work place
deadline_told work (Made (answer.Extended shown)) = deadline_extended work
deadline_told work (Made (answer.Reset shown)) = deadline_extended work
deadline_told work (Made (answer.Resumed shown)) = deadline_resumed work
deadline_told work reply = None

-- the deadline whose end a query asks for, as it would start now
abbrev pub deadline_queried : QueryOf → Option DeadlineRowView
deadline_queried (query.Compute period event second service) = Some (started period event second service)
deadline_queried q = None

abbrev pub deadline_asked : Work → Option DeadlineRowView
deadline_asked (Query q) = deadline_queried q
deadline_asked (Command c) = None

-- the reply is that end
abbrev pub is_computed : Reply → Bool
is_computed (Viewed (view.Computed shown)) = true
is_computed reply = false

-- the deadline whose end was asked for, where it is computed
abbrev pub deadline_computed : Work → Reply → Option DeadlineRowView
deadline_computed work reply = if is_computed reply then deadline_asked work else None

-- The docket of that court has answered the work so, and stands for what is docketed since; and the days are those that are
-- docketed, here and by other readings.
pub record HasAnswered (court : CourtView) (labels : LabelsView) (docket : DocketView) (days : DaysByReadingView) (docketed : Rows) (work : Work) (reply : Reply) : Type 0 where
  pub before : Rows
  pub said : reply ≡ reply_to (setup_of court) before work
  pub left : docketed ≡ docketed_then (setup_of court) before work
  pub holds : Holds (setup_of court) docket docketed
  pub read : days ≡ days_docketed labels docketed

-- the reasons of the deadline whose end a reply says, as it is docketed after the row, or of that whose end is computed
abbrev pub AreReasonsTold : CourtView → LabelsView → (docketed : Rows) → Option (ℕ × ℕ) → Option DeadlineRowView → List ℕ → Type 0
AreReasonsTold court labels docketed (Some told) computed = AreReasonsDocketed court labels docketed told.0 told.1
AreReasonsTold court labels docketed None computed = AreReasonsIfAny court labels (days_docketed labels docketed) computed

abbrev pub AreReasonsWith : CourtView → LabelsView → (docketed : Rows) → Work → Reply → List ℕ → Type 0
AreReasonsWith court labels docketed work reply = AreReasonsTold court labels docketed (deadline_told work reply) (deadline_computed work reply)

-- what is written below the line of a reply: the reasons of the deadline whose end it says, and what is said of an act or a refusal
abbrev pub IsTold : CourtView → LabelsView → (docketed : Rows) → Work → Reply → List ℕ → Type 0
IsTold court labels docketed work reply = Then (AreReasonsWith court labels docketed work reply) (Is (notes_text court labels docketed work reply))

-- the answer is to a row that changed the days
abbrev pub changes_days : Reply → Bool
changes_days (Made answer.HolidayEntered) = true
changes_days (Made answer.OutageEntered) = true
changes_days reply = false

-- the sheet that a reply shows
abbrev pub sheet_replied : Reply → Option Sheet
sheet_replied (Viewed (view.Sheet sheet)) = Some sheet
sheet_replied reply = None

-- a reply that shows no list: nothing is written below a list
abbrev pub without_list : Reply → Option Reply
without_list (Viewed (view.Sheet sheet)) = None
without_list (Viewed (view.Bookings bookings)) = None
without_list reply = Some reply

-- to a row a sheet with the reasons of its deadlines, or the text of the reply with numbers and what is written below it
abbrev pub IsReplyWith : CourtView → LabelsView → (docketed : Rows) → NumberedRow → Reply → Option Sheet → List ℕ → Type 0
IsReplyWith court labels docketed n reply (Some sheet) =
    Then (Is (row_numbers n.number n.row.clerk ++ codes "sheet\n")) (IsSheet court labels (days_docketed labels docketed) Reasons sheet)
IsReplyWith court labels docketed n reply None =
    Then (Is (named_line_of court labels.cases n.number n.row.clerk (numbered labels.moved n.row.work reply))) (IsTold court labels docketed n.row.work reply)

-- the docket's reply is by places, and what it shows has numbers
abbrev pub IsReply : CourtView → LabelsView → (docketed : Rows) → NumberedRow → Reply → List ℕ → Type 0
IsReply court labels docketed n reply =
    IsReplyWith court labels docketed n reply (sheet_replied (numbered labels.moved n.row.work reply))

-- the reply to a row, before which this is docketed: the row's number, its clerk's, and the reply
abbrev pub IsRow : CourtView → LabelsView → (docketed : Rows) → NumberedRow → List ℕ → Type 0
IsRow court labels docketed n =
    IsReply court labels (docketed_then (setup_of court) docketed n.row.work) n (reply_to (setup_of court) docketed n.row.work)

-- the replies to rows, in their order
unfoldable pub AreReplies : CourtView → LabelsView → (docketed : Rows) → List NumberedRow → List ℕ → Type 0
AreReplies court labels docketed [] = Is []
AreReplies court labels docketed (n ∷ rows) =
    Then (IsRow court labels docketed n) (AreReplies court labels (docketed_then (setup_of court) docketed n.row.work) rows)
