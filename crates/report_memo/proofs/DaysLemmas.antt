-- The days by other readings after a row.
use Rattle.std.proofs.Common.{◌≡◌, ◌∙◌, false, Option, Some, None, ap, inl, inr, refl, sym, if◌then◌else◌}
use Rattle.std.proofs.lemmas.Bool.{cases_Bool}
use Rattle.court_days.specs.Words.{DaysView}
use Rattle.docket_rows.specs.declared.command.Command.{Command as CommandOf}
use Rattle.docket_rows.specs.declared.command.Command.TheVariants as command
use Rattle.docket_rows.specs.declared.fact.Fact.TheVariants as fact
use Rattle.docket_rows.specs.declared.refusal.Refusal.{Refusal}
use Rattle.docket_rows.specs.Words.{CourtSetup, Rows, answered, parts_of, refusal, step}
use Rattle.docket_core.specs.Words.{DocketView, parts_held}
use Rattle.reason_notes.specs.Readings.Words.{DaysByReadingView, days_by_reading}
use Rattle.row_forms.specs.declared.row.Work.{Work}
use Rattle.row_forms.specs.declared.row.Work.TheVariants.{Command, Query}
use Rattle.office_texts.specs.declared.run.reply.Reply.{Reply}
use Rattle.office_texts.specs.declared.run.reply.Reply.TheVariants.{Made}
use Rattle.office_texts.specs.Run.Words.{Holds, docketed_then, reply_to}
use Rattle.report_texts.specs.Words.{LabelsView}
use Rattle.report_memo.specs.Reasons.{days_docketed}
use Rattle.report_memo.specs.Replies.{changes_days}
use Rattle.report_memo.proofs.DocketLemmas.{days_held}

-- a command that is answered otherwise than with a holiday or an outage leaves the days as they were
made_same : (setup : CourtSetup) (docketed : Rows) (c : CommandOf) (refused : Option Refusal) → refusal setup (parts_of docketed) c ≡ refused → changes_days (Made (answered setup (parts_of docketed) c)) ≡ false → (step setup docketed c).0.days ≡ docketed.days
unfolding step answered
made_same setup docketed c (Some r) is none = rw is refl
made_same setup docketed (command.OpenCase case filed) None is none = rw is refl
made_same setup docketed (command.Start case period event second service) None is none = rw is refl
made_same setup docketed (command.FileAct case deadline filing) None is none = rw is refl
made_same setup docketed (command.Extend case deadline request) None is none = rw is refl
made_same setup docketed (command.Motion case served need) None is none = rw is refl
made_same setup docketed (command.Book s) None is none = rw is refl
made_same setup docketed (command.MoveHearing s) None is none = rw is refl
made_same setup docketed (command.Cancel case motion) None is none = rw is refl
made_same setup docketed (command.Holiday day list) None is none = absurd cc (rw is at none)
made_same setup docketed (command.Inaccessible day from to) None is none = absurd cc (rw is at none)
made_same setup docketed (command.Fact case (fact.Ended deadline why dated)) None is none = rw is refl
made_same setup docketed (command.Fact case (fact.Resumed deadline day dated)) None is none = rw is refl
made_same setup docketed (command.Fact case (fact.Closed why dated)) None is none = rw is refl
made_same setup docketed (command.Fact case (fact.Reopened dated)) None is none = rw is refl
made_same setup docketed (command.Fact case (fact.Ruled motion how dated)) None is none = rw is refl
made_same setup docketed (command.Fact case (fact.Assigned judge referred dated)) None is none = rw is refl
made_same setup docketed (command.Fact case fact.Titled) None is none = rw is refl
made_same setup docketed (command.Fact case (fact.Labelled counted number)) None is none = rw is refl

same_days : (setup : CourtSetup) (docketed : Rows) (work : Work) → changes_days (reply_to setup docketed work) ≡ false → (docketed_then setup docketed work).days ≡ docketed.days
unfolding step
same_days setup docketed (Query q) none = refl
same_days setup docketed (Command c) none = made_same setup docketed c (refusal setup (parts_of docketed) c) refl none

-- the days are those that are docketed after the row
pub renewed : (setup : CourtSetup) (docketed : Rows) (work : Work) (d : DocketView) (labels : LabelsView) (old new : DaysByReadingView) (reply : Reply) → reply ≡ reply_to setup docketed work → Holds setup d (docketed_then setup docketed work) → old ≡ days_docketed labels docketed → new ≡ (if changes_days reply then days_by_reading (parts_held d).days labels.doubtful else old) → new ≡ days_docketed labels (docketed_then setup docketed work)
renewed setup docketed work d labels old new reply said holds before made = elim (cases_Bool (changes_days reply)) [
  | inl changed ↦
      (rw changed at made) ∙ ap (λ (c : DaysView). days_by_reading c labels.doubtful) (days_held setup d (docketed_then setup docketed work) holds)
  | inr same ↦
      (rw same at made) ∙ before ∙ ap (λ (c : DaysView). days_by_reading c labels.doubtful) (sym (same_days setup docketed work (rw said at same)))
]
