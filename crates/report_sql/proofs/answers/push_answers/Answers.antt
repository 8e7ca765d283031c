use Rattle.std.proofs.Common.{◌≡◌, ◌≤◌, ◌+◌, ◌++◌, ◌∙◌, ◌∷◌, drop, take, length, append_assoc, append-nil, refl, sym, ap, subst, arith}
use Rattle.std.proofs.lemmas.List.{at_drop_more, at_drop_all}
use Rattle.docket_rows.specs.Words.{Rows, setup_of, opening_rows}
use Rattle.office_texts.specs.Run.Words.{Holds, docketed_after, docketed_then, reply_to}
use Rattle.row_forms.specs.declared.numbered.NumberedRow.{NumberedRow}
use Rattle.row_forms.specs.Words.{rows_of}
use Rattle.report_texts.specs.Words.{LabelsView}
use Rattle.report_texts.proofs.CallerLemmas.{docketed_at_number}
use Rattle.desk_numbers.specs.Words.{numbered}
use Rattle.report_sql.specs.Answers.{answer_row, answer_rows}
use Rattle.report_sql.proofs.answers.push_answers.Goals as goal

pub loop-numbered-init : goal.loop-numbered-init
unfolding docketed_after
loop-numbered-init c = record { holds = c.requires; so_far = refl }

pub loop-numbered-preserved : goal.loop-numbered-preserved
unfolding answer_rows
loop-numbered-preserved c =
    let court = c.args.court.now in
    let labels = c.args.labels.now in
    let moved : c.labels.inside.moved.now ≡ labels.moved = ap (λ (l : LabelsView). l.moved) c.labels.view_is in
    let setup = setup_of court in
    let rows = c.args.rows.now in
    let i = c.loop-numbered.numbered-index in
    let row = c.numbered-item.result.row in
    let n = c.numbered-item.result.number in
    let before = c.loop-numbered.out in
    let docketed : Rows = docketed_after setup (opening_rows setup) (rows_of (take i rows)) in
    let replied = c.in_ok-reply.ensures setup docketed c.loop-numbered.invariant.holds in
    let more : docketed_after setup (opening_rows setup) (rows_of (take (i + 1) rows)) ≡ docketed_then setup docketed row.work =
    docketed_at_number setup (opening_rows setup) rows i c.numbered-item.result c.loop-numbered-test.true ∙ ap (λ (r : NumberedRow). docketed_then setup docketed r.row.work) (sym c.numbered-item.is) in
    let here = answer_row court labels.cases n row.clerk in
    let later = answer_rows court labels (docketed_then setup docketed row.work) (drop (i + 1) rows) in
    let same : here c.number_reply-reply.result ≡ here (numbered labels.moved row.work (reply_to setup docketed row.work)) = ap here (rw moved at c.number_reply-reply.ensures ∙ ap (numbered labels.moved row.work) replied.0) in
    let step = at_drop_more (answer_rows court labels docketed) rows i c.numbered-item.result c.loop-numbered-test.true ∙ ap (λ (r : NumberedRow). answer_rows court labels docketed (r ∷ drop (i + 1) rows)) (sym c.numbered-item.is) in
    record {
      holds = subst (Holds setup c.reply_to.new.docket) (sym more) replied.1;
      so_far = rw (c.in_ok-push_answer.ensures, more) (append_assoc before (here c.number_reply-reply.result) later ∙ ap (λ l. before ++ l) (ap (λ l. l ++ later) same ∙ sym step) ∙ c.loop-numbered.invariant.so_far);
    }

pub returns-clause-answers : goal.returns-clause-answers
unfolding answer_rows
returns-clause-answers c =
    let court = c.args.court.now in
    let setup = setup_of court in
    let past : length c.args.rows.now ≤ c.loop-numbered.numbered-index = omega (arith, c.loop-numbered-test.false) in
    let none = at_drop_all (answer_rows court c.args.labels.now (docketed_after setup (opening_rows setup) (rows_of (take c.loop-numbered.numbered-index c.args.rows.now)))) c.args.rows.now c.loop-numbered.numbered-index past in
    sym (append-nil _) ∙ rw none at c.loop-numbered.invariant.so_far
