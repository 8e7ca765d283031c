-- The whole text, made piece by piece.
use Rattle.std.proofs.Common.{◌≡◌, ◌++◌, ◌∙◌, ℕ, List, [], length, sym, ap, subst}
use Rattle.court_days.specs.Words.{CourtView}
use Rattle.docket_rows.specs.Words.{setup_of, last_case, opening_rows}
use Rattle.row_forms.specs.declared.numbered.NumberedRow.{NumberedRow}
use Rattle.row_forms.specs.Words.{rows_of}
use Rattle.office_texts.specs.Run.Words.{docketed_after}
use Rattle.report_texts.specs.Words.{LabelsView}
use Rattle.report_memo.specs.Memo.{AreCalendars, AreSheets, IsClosing, IsMemo}
use Rattle.report_memo.specs.Replies.{AreReplies}
use Rattle.report_memo.specs.Texts.{Adds}
use Rattle.report_memo.proofs.TextLemmas.{adds_then}

pub memo_made : (court : CourtView) (labels : LabelsView) (rows : List NumberedRow) (empty replies sheets whole : List ℕ) (judges : ℕ) → empty ≡ [] → Adds (AreReplies court labels (opening_rows (setup_of court)) rows) empty replies → Adds (AreSheets court labels (docketed_after (setup_of court) (opening_rows (setup_of court)) (rows_of rows)) 1 last_case) replies sheets → Adds (AreCalendars court labels (docketed_after (setup_of court) (opening_rows (setup_of court)) (rows_of rows)) 0 judges) sheets whole → judges ≡ length court.judges → IsMemo court labels rows whole
memo_made court labels rows empty replies sheets whole judges is_empty replied with_sheets with_calendars all =
    let docketed = docketed_after (setup_of court) (opening_rows (setup_of court)) (rows_of rows) in
    let calendars : Adds (AreCalendars court labels docketed 0 (length court.judges)) sheets whole = subst (λ (n : ℕ). Adds (AreCalendars court labels docketed 0 n) sheets whole) all with_calendars in
    let closed : Adds (IsClosing court labels docketed) replies whole =
    adds_then (AreSheets court labels docketed 1 last_case) (AreCalendars court labels docketed 0 (length court.judges)) replies sheets whole with_sheets calendars in
    let made : Adds (IsMemo court labels rows) empty whole =
    adds_then (AreReplies court labels (opening_rows (setup_of court)) rows) (IsClosing court labels docketed) empty replies whole replied closed in
    subst (IsMemo court labels rows) (sym (made.appended ∙ ap (λ t. t ++ made.added) is_empty)) made.is_kind
