use Rattle.std.proofs.Common.{◌≡◌, ◌≤◌, ◌+◌, ◌++◌, ◌∙◌, drop, take, length, string_bytes, append_assoc, append-nil, refl, sym, ap, subst, arith}
use Rattle.std.proofs.lemmas.List.{at_drop_more, at_drop_all}
use Rattle.docket_rows.specs.Words.{Rows, setup_of, opening_rows}
use Rattle.office_texts.specs.Run.Replies.{Holds, docketed_after, docketed_then, reply_to}
use Rattle.office_texts.specs.Run.Text.{line_of, lines_from}
use Rattle.office_texts.proofs.RunLemmas.RunLemmas.{docketed_at}
use Rattle.office_texts.proofs.run.text.push_replies.Goals as goal

pub loop-row-init : goal.loop-row-init
unfolding docketed_after
loop-row-init c = record { number = refl; holds = c.requires; so_far = refl }

pub loop-row-preserved : goal.loop-row-preserved
unfolding lines_from
loop-row-preserved c =
    let court = c.args.court.now in
    let setup = setup_of court in
    let rows = c.args.rows.now in
    let i = c.loop-row.row-index in
    let n = c.loop-row.number in
    let row = c.row-item.result in
    let before = string_bytes c.loop-row.text in
    let docketed : Rows = docketed_after setup (opening_rows setup) (take i rows) in
    let replied = c.in_ok-reply.ensures setup docketed c.loop-row.invariant.holds in
    let more : docketed_after setup (opening_rows setup) (take (i + 1) rows) ≡ docketed_then setup docketed row.work =
    docketed_at setup (opening_rows setup) rows i row c.loop-row-test.true ∙ ap (λ r. docketed_then setup docketed r.work) (sym c.row-item.is) in
    let later = lines_from court (docketed_then setup docketed row.work) (n + 1) (drop (i + 1) rows) in
    let line = line_of court n row.clerk c.in_ok-reply.reply in
    let same : line ≡ line_of court n row.clerk (reply_to setup docketed row.work) = ap (line_of court n row.clerk) replied.0 in
    let step = at_drop_more (lines_from court docketed n) rows i row c.loop-row-test.true ∙ ap (λ r. line_of court n r.clerk (reply_to setup docketed r.work) ++ lines_from court (docketed_then setup docketed r.work) (n + 1) (drop (i + 1) rows)) (sym c.row-item.is) in
    record {
      number = omega arith;
      holds = subst (Holds setup c.reply_to.new.docket) (sym more) replied.1;
      so_far = rw (c.in_ok-push_line.ensures, more) (append_assoc before line later ∙ ap (λ l. before ++ l) (ap (λ l. l ++ later) same ∙ sym step) ∙ c.loop-row.invariant.so_far);
    }

pub returns-clause-text : goal.returns-clause-text
unfolding lines_from
returns-clause-text c =
    let court = c.args.court.now in
    let setup = setup_of court in
    let past : length c.args.rows.now ≤ c.loop-row.row-index = omega (arith, c.loop-row-test.false) in
    let none = at_drop_all (lines_from court (docketed_after setup (opening_rows setup) (take c.loop-row.row-index c.args.rows.now)) c.loop-row.number) c.args.rows.now c.loop-row.row-index past in
    sym (append-nil _) ∙ rw none at c.loop-row.invariant.so_far
