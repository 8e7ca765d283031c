use Rattle.std.proofs.Common.{◌≡◌, ◌≤◌, ◌+◌, ◌∙◌, take, length, string_bytes, sym, ap, subst, arith}
use Rattle.docket_rows.specs.Words.{Rows, setup_of, opening_rows}
use Rattle.row_forms.specs.declared.numbered.NumberedRow.{NumberedRow}
use Rattle.row_forms.specs.Words.{rows_of}
use Rattle.office_texts.specs.Run.Words.{Holds, docketed_after, docketed_then}
use Rattle.report_texts.proofs.CallerLemmas.{docketed_at_number}
use Rattle.report_texts.specs.Words.{LabelsView}
use Rattle.report_memo.specs.Reasons.{days_docketed}
use Rattle.report_memo.proofs.DocketLemmas.{days_read}
use Rattle.report_memo.proofs.ReplyLemmas.{replies_end, replies_more}
use Rattle.report_memo.proofs.replies.push_replies.Goals as goal

pub loop-row-init : goal.loop-row-init
unfolding docketed_after
loop-row-init c =
    let setup = setup_of c.args.court.now in
    let marked : c.labels.inside.doubtful.now ≡ c.args.labels.now.doubtful = ap (λ (l : LabelsView). l.doubtful) c.labels.view_is in
    record {
      holds = c.requires;
      read = days_read setup c.args.docket.now (opening_rows setup) c.requires c.args.labels.now _ _ _ c.in_ok-days.ensures c.days.ensures marked;
      leads = λ new all. all;
    }

pub loop-row-preserved : goal.loop-row-preserved
loop-row-preserved c =
    let court = c.args.court.now in
    let setup = setup_of court in
    let rows = c.args.rows.now in
    let i = c.loop-row.row-index in
    let row = c.row-item.result in
    let docketed : Rows = docketed_after setup (opening_rows setup) (rows_of (take i rows)) in
    let is = sym c.row-item.is in
    let more : docketed_after setup (opening_rows setup) (rows_of (take (i + 1) rows)) ≡ docketed_then setup docketed row.row.work =
    docketed_at_number setup (opening_rows setup) rows i row c.loop-row-test.true ∙ ap (λ (n : NumberedRow). docketed_then setup docketed n.row.work) is in
    let holds = c.loop-row.invariant.holds in
    let read = c.loop-row.invariant.read in
    record {
      holds = subst (Holds setup c.push_row.new.docket) (sym more) (c.in_ok-push_row.ensures.docket docketed holds);
      read = subst (λ (rows : Rows). c.push_row.new.days ≡ days_docketed c.args.labels.now rows) (sym more) (c.in_ok-push_row.ensures.days docketed holds read);
      leads = λ new rest.
          c.loop-row.invariant.leads new (replies_more court c.args.labels.now docketed rows i row (string_bytes c.loop-row.text) _ new c.loop-row-test.true is (c.in_ok-push_row.ensures.text docketed holds read) (rw more at rest));
    }

pub returns-clause-text : goal.returns-clause-text
returns-clause-text c =
    let past : length c.args.rows.now ≤ c.loop-row.row-index = omega (arith, c.loop-row-test.false) in
    c.loop-row.invariant.leads (string_bytes c.loop-row.text) (replies_end c.args.court.now c.args.labels.now _ c.args.rows.now c.loop-row.row-index (string_bytes c.loop-row.text) past)
