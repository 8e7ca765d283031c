-- What a docket shows that holds what is docketed.
use Rattle.std.proofs.Common.{◌≡◌, ◌∙◌, ℕ, ℤ, List, true, Option, Some, None, ap, refl}
use Rattle.court_days.specs.Words.{DaysView}
use Rattle.rule6.specs.declared.service.ServiceKind.{ServiceKind}
use Rattle.rule6.specs.declared.timeliness.Shown.{Shown}
use Rattle.rule_periods.specs.declared.period.Period.{Period}
use Rattle.rule_periods.specs.declared.refusal.PeriodRefusal.{PeriodRefusal}
use Rattle.rule_periods.specs.Words.{EventView, start_refusal}
use Rattle.docket_rows.specs.declared.query.Query.TheVariants as query
use Rattle.docket_rows.specs.declared.view.View.TheVariants as view
use Rattle.docket_rows.specs.Words.{CourtSetup, Rows, deadline_in, parts_of, query_refusal, seen_by, view_of}
use Rattle.docket_core.specs.Words.{DocketView, parts_held}
use Rattle.docket_laws.proofs.CallerLemmas.{hold_same}
use Rattle.office_texts.specs.declared.run.reply.Reply.{Reply}
use Rattle.office_texts.specs.declared.run.reply.Reply.TheVariants.{Made, Viewed}
use Rattle.office_texts.specs.Run.Words.{Holds}
use Rattle.reason_notes.specs.Readings.Words.{DaysByReadingView, days_by_reading}
use Rattle.report_texts.specs.Words.{LabelsView}
use Rattle.report_memo.specs.Reasons.{days_docketed}
use Rattle.report_memo.specs.Replies.{is_computed}

module _ (setup : CourtSetup) (d : DocketView) (docketed : Rows) (holds : Holds setup d docketed) where
  -- its days are those that are docketed
  pub days_held : (parts_held d).days ≡ docketed.days
  unfolding parts_of
  days_held = (hold_same (parts_held d) (parts_of docketed) holds.stands).days

  -- its days by other readings are those that are docketed
  pub days_read : (labels : LabelsView) (made : DaysByReadingView) (days : DaysView) (doubtful : List ℤ) → made ≡ days_by_reading days doubtful → days ≡ (parts_held d).days → doubtful ≡ labels.doubtful → made ≡ days_docketed labels docketed
  days_read labels made days doubtful is held marked =
      is ∙ ap (λ (c : DaysView). days_by_reading c doubtful) (held ∙ days_held) ∙ ap (days_by_reading docketed.days) marked

  -- its deadlines are too
  pub deadline_held : (case number : ℕ) → deadline_in (parts_held d) case number ≡ deadline_in (parts_of docketed) case number
  deadline_held case number = rw ((hold_same (parts_held d) (parts_of docketed) holds.stands).case case) refl

-- where the end of a period was computed, the period can start
pub computed_starts : (setup : CourtSetup) (docketed : Rows) (period : Period) (event : EventView) (second : Option ℤ) (service : Option ServiceKind) (shown : Shown) → view.Computed shown ≡ view_of setup docketed (query.Compute period event second service) → start_refusal docketed.days period event second service ≡ None
unfolding seen_by query_refusal parts_of
computed_starts setup docketed period event second service shown e = by (start_refusal docketed.days period event second service) refl
  where
    by : (r : Option PeriodRefusal) → start_refusal docketed.days period event second service ≡ r → r ≡ None
    by None is = refl
    by (Some refusal) is = absurd cc (rw is at e)

-- a reply that is a computed end shows one
pub computed_shows : (reply : Reply) → is_computed reply ≡ true → (shown : Shown) × (reply ≡ Viewed (view.Computed shown))
computed_shows (Viewed (view.Computed shown)) is = (shown, refl)
computed_shows (Viewed (view.Sheet sheet)) is = absurd cc
computed_shows (Viewed (view.Bookings bookings)) is = absurd cc
computed_shows (Viewed (view.Refused refusal)) is = absurd cc
computed_shows (Made answer) is = absurd cc
