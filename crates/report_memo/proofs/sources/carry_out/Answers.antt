use Rattle.std.proofs.Common.{◌≡◌, ◌≤◌, ◌+◌, ◌++◌, ◌∙◌, drop, take, length, option_to_list, append_assoc, append-nil, refl, sym, ap, subst, arith}
use Rattle.std.proofs.lemmas.List.{at_drop_more, at_drop_all}
use Rattle.docket_rows.specs.Words.{Rows, opening_rows, setup_of}
use Rattle.row_forms.specs.declared.numbered.NumberedRow.{NumberedRow}
use Rattle.row_forms.specs.Words.{rows_of}
use Rattle.office_texts.specs.Run.Words.{Holds, docketed_after, docketed_then, reply_to}
use Rattle.report_texts.proofs.CallerLemmas.{docketed_at_number}
use Rattle.report_memo.specs.Sources.{source_in, sources_made}
use Rattle.report_memo.proofs.sources.carry_out.Goals as goal

pub loop-row-init : goal.loop-row-init
unfolding docketed_after
loop-row-init c = record { holds = c.requires; so_far = refl }

pub loop-row-preserved : goal.loop-row-preserved
unfolding sources_made
loop-row-preserved c =
    let setup = setup_of c.args.court.now in
    let case = c.args.case in
    let rows = c.args.rows.now in
    let i = c.loop-row.row-index in
    let row = c.row-item.result in
    let before = c.loop-row.sources.items in
    let docketed : Rows = docketed_after setup (opening_rows setup) (rows_of (take i rows)) in
    let replied = c.in_ok-reply.ensures setup docketed c.loop-row.invariant.holds in
    let more : docketed_after setup (opening_rows setup) (rows_of (take (i + 1) rows)) ≡ docketed_then setup docketed row.row.work =
    docketed_at_number setup (opening_rows setup) rows i row c.loop-row-test.true ∙ ap (λ (n : NumberedRow). docketed_then setup docketed n.row.work) (sym c.row-item.is) in
    let later = sources_made setup case (docketed_then setup docketed row.row.work) (drop (i + 1) rows) in
    let step = at_drop_more (sources_made setup case docketed) rows i row c.loop-row-test.true ∙ ap (λ (n : NumberedRow). option_to_list (source_in case n.number n.row.work (reply_to setup docketed n.row.work)) ++ sources_made setup case (docketed_then setup docketed n.row.work) (drop (i + 1) rows)) (sym c.row-item.is) in
    let same = ap (λ r. option_to_list (source_in case row.number row.row.work r)) replied.0 in
    record {
      holds = subst (Holds setup c.reply_to.new.docket) (sym more) replied.1;
      so_far = rw (c.in_ok-push_source.ensures, more, c.source_in.ensures) (append_assoc before (option_to_list (source_in case row.number row.row.work c.in_ok-reply.reply)) later ∙ ap (λ l. before ++ l) (ap (λ l. l ++ later) same ∙ sym step) ∙ c.loop-row.invariant.so_far);
    }

pub returns-clause-sources : goal.returns-clause-sources
unfolding sources_made
returns-clause-sources c =
    let setup = setup_of c.args.court.now in
    let past : length c.args.rows.now ≤ c.loop-row.row-index = omega (arith, c.loop-row-test.false) in
    let none = at_drop_all (sources_made setup c.args.case (docketed_after setup (opening_rows setup) (rows_of (take c.loop-row.row-index c.args.rows.now)))) c.args.rows.now c.loop-row.row-index past in
    sym (append-nil _) ∙ rw none at c.loop-row.invariant.so_far
