-- Replies, one after another.
use Rattle.std.proofs.Common.{◌≡◌, ◌+◌, ◌<◌, ◌≤◌, ◌∙◌, ℕ, List, [], ◌∷◌, Some, None, drop, length, get_or, sym, ap, subst}
use Rattle.std.proofs.lemmas.List.{at_drop_more, at_drop_all}
use Rattle.court_days.specs.Words.{CourtView}
use Rattle.docket_rows.specs.declared.view.View.TheVariants as view
use Rattle.docket_rows.specs.Words.{Rows, setup_of}
use Rattle.row_forms.specs.declared.numbered.NumberedRow.{NumberedRow}
use Rattle.row_forms.specs.declared.row.Work.{Work}
use Rattle.row_forms.specs.declared.row.Work.TheVariants.{Command, Query}
use Rattle.office_texts.specs.declared.run.reply.Reply.{Reply}
use Rattle.office_texts.specs.declared.run.reply.Reply.TheVariants.{Made, Viewed}
use Rattle.office_texts.specs.Run.Words.{docketed_then}
use Rattle.report_texts.specs.Words.{LabelsView}
use Rattle.report_memo.specs.Replies.{AreReplies, IsRow, IsTold, without_list}
use Rattle.report_memo.specs.Texts.{Adds, Is}
use Rattle.report_memo.proofs.TextLemmas.{adds_none, adds_then}

-- the reply to a row, and then those to the rows that follow
pub replies_more : (court : CourtView) (labels : LabelsView) (docketed : Rows) (rows : List NumberedRow) (i : ℕ) (row : NumberedRow) (old mid new : List ℕ) → i < length rows → get_or rows i row ≡ row → Adds (IsRow court labels docketed row) old mid → Adds (AreReplies court labels (docketed_then (setup_of court) docketed row.row.work) (drop (i + 1) rows)) mid new → Adds (AreReplies court labels docketed (drop i rows)) old new
unfolding AreReplies
replies_more court labels docketed rows i row old mid new within is one rest =
    let later = AreReplies court labels (docketed_then (setup_of court) docketed row.row.work) (drop (i + 1) rows) in
    let whole : Adds (AreReplies court labels docketed (row ∷ drop (i + 1) rows)) old new = adds_then (IsRow court labels docketed row) later old mid new one rest in
    subst (λ rs. Adds (AreReplies court labels docketed rs) old new) (sym (at_drop_more (λ rs. rs) rows i row within ∙ ap (λ r. r ∷ drop (i + 1) rows) is)) whole

-- no row is left
pub replies_end : (court : CourtView) (labels : LabelsView) (docketed : Rows) (rows : List NumberedRow) (i : ℕ) (text : List ℕ) → length rows ≤ i → Adds (AreReplies court labels docketed (drop i rows)) text text
unfolding AreReplies
replies_end court labels docketed rows i text past =
    subst (λ rs. Adds (AreReplies court labels docketed rs) text text) (sym (at_drop_all (λ rs. rs) rows i past)) (adds_none text)

-- a reply that shows no list is the same reply
pub same_reply : (reply same : Reply) → without_list reply ≡ Some same → same ≡ reply
same_reply (Viewed (view.Sheet sheet)) same is = absurd cc
same_reply (Viewed (view.Bookings bookings)) same is = absurd cc
same_reply (Viewed (view.Computed shown)) same is = cc
same_reply (Viewed (view.Refused refusal)) same is = cc
same_reply (Made answer) same is = cc

-- below a list nothing is written
pub none_told : (court : CourtView) (labels : LabelsView) (docketed : Rows) (work : Work) (reply : Reply) (text : List ℕ) → without_list reply ≡ None → Adds (IsTold court labels docketed work reply) text text
none_told court labels docketed (Command command) (Viewed (view.Sheet sheet)) text is = adds_then (Is []) (Is []) text text text (adds_none text) (adds_none text)
none_told court labels docketed (Command command) (Viewed (view.Bookings bookings)) text is = adds_then (Is []) (Is []) text text text (adds_none text) (adds_none text)
none_told court labels docketed (Query query) (Viewed (view.Sheet sheet)) text is = adds_then (Is []) (Is []) text text text (adds_none text) (adds_none text)
none_told court labels docketed (Query query) (Viewed (view.Bookings bookings)) text is = adds_then (Is []) (Is []) text text text (adds_none text) (adds_none text)
none_told court labels docketed work (Viewed (view.Computed shown)) text is = absurd cc
none_told court labels docketed work (Viewed (view.Refused refusal)) text is = absurd cc
none_told court labels docketed work (Made answer) text is = absurd cc
