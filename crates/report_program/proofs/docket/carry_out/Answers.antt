use Rattle.std.proofs.Common.{◌≡◌, ◌≤◌, ◌+◌, ◌∙◌, take, length, refl, sym, ap, subst, arith}
use Rattle.docket_rows.specs.Words.{Rows, opening_rows, setup_of}
use Rattle.office_texts.specs.declared.run.reply.Reply.{Reply}
use Rattle.office_texts.specs.Run.Words.{Holds, docketed_after, docketed_then}
use Rattle.row_forms.specs.declared.numbered.NumberedRow.{NumberedRow}
use Rattle.row_forms.specs.Words.{rows_of}
use Rattle.report_texts.proofs.CallerLemmas.{docketed_at_number}
use Rattle.report_program.specs.Changes.{change_in}
use Rattle.report_program.specs.Lost.{lost_if_refused}
use Rattle.report_program.proofs.CameLemmas.{come_all, come_more}
use Rattle.report_program.proofs.docket.carry_out.Goals as goal

pub loop-numbered-init : goal.loop-numbered-init
unfolding docketed_after
loop-numbered-init c = record { holds = c.requires; changes = refl; lost = refl }

pub loop-numbered-preserved : goal.loop-numbered-preserved
loop-numbered-preserved c =
    let setup = setup_of c.args.court.now in
    let rows = c.args.rows.now in
    let i = c.loop-numbered.numbered-index in
    let n = c.numbered-item.result in
    let docketed : Rows = docketed_after setup (opening_rows setup) (rows_of (take i rows)) in
    let replied = c.in_ok-reply.ensures setup docketed c.loop-numbered.invariant.holds in
    let more : docketed_after setup (opening_rows setup) (rows_of (take (i + 1) rows)) ≡ docketed_then setup docketed n.row.work =
    docketed_at_number setup (opening_rows setup) rows i n c.loop-numbered-test.true ∙ ap (λ (r : NumberedRow). docketed_then setup docketed r.row.work) (sym c.numbered-item.is) in
    record {
      holds = subst (Holds setup c.reply_to.new.docket) (sym more) replied.1;
      changes = rw more (come_more (λ (m : NumberedRow) (reply : Reply). change_in m.number m.row.work reply) setup docketed rows i n _ _ _ c.loop-numbered-test.true c.numbered-item.is (rw replied.0 at c.in_ok-push_came.ensures.changes) c.loop-numbered.invariant.changes);
      lost = rw more (come_more (lost_if_refused c.args.given.now) setup docketed rows i n _ _ _ c.loop-numbered-test.true c.numbered-item.is (rw replied.0 at c.in_ok-push_came.ensures.lost) c.loop-numbered.invariant.lost);
    }

pub returns-clause-changes : goal.returns-clause-changes
returns-clause-changes c =
    let setup = setup_of c.args.court.now in
    let past : length c.args.rows.now ≤ c.loop-numbered.numbered-index = omega (arith, c.loop-numbered-test.false) in
    come_all (λ (m : NumberedRow) (reply : Reply). change_in m.number m.row.work reply) setup (docketed_after setup (opening_rows setup) (rows_of (take c.loop-numbered.numbered-index c.args.rows.now))) c.args.rows.now c.loop-numbered.numbered-index _ _ past c.loop-numbered.invariant.changes

pub returns-clause-lost : goal.returns-clause-lost
returns-clause-lost c =
    let setup = setup_of c.args.court.now in
    let past : length c.args.rows.now ≤ c.loop-numbered.numbered-index = omega (arith, c.loop-numbered-test.false) in
    come_all (lost_if_refused c.args.given.now) setup (docketed_after setup (opening_rows setup) (rows_of (take c.loop-numbered.numbered-index c.args.rows.now))) c.args.rows.now c.loop-numbered.numbered-index _ _ past c.loop-numbered.invariant.lost
