use Rattle.std.proofs.Common.{◌≡◌, ◌++◌, ◌∙◌, map, ap}
use Rattle.docket_rows.specs.declared.query.Query.TheVariants as query
use Rattle.docket_rows.specs.Words.{opening_rows, setup_of, view_of}
use Rattle.desk_numbers.specs.Words.{numbered_view}
use Rattle.row_forms.specs.Words.{rows_of}
use Rattle.office_texts.specs.Run.Words.{docketed_after}
use Rattle.report_texts.specs.Words.{LabelsView}
use Rattle.report_memo.specs.Sources.{numbered_source, sources_made}
use Rattle.report_memo.proofs.DocketLemmas.{days_read}
use Rattle.report_memo.proofs.case.case_text.Goals as goal

pub returns : goal.returns
returns c =
    let court = c.args.court.now in
    let setup = setup_of court in
    let docketed = docketed_after setup (opening_rows setup) (rows_of c.args.rows.now) in
    let placed = sources_made setup c.args.case (opening_rows setup) c.args.rows.now in
    let made = map (numbered_source c.args.labels.now.moved c.args.case) placed in
    let holds = c.in_ok-docket.ensures.docket in
    let listed = c.in_ok-docket.ensures.sources ∙ ap (λ l. l ++ placed) c.new-made.ensures.items in
    let moved : c.labels.inside.moved.now ≡ c.args.labels.now.moved = ap (λ (l : LabelsView). l.moved) c.labels.view_is in
    let sources : c.numbered-sources.result ≡ made = rw moved at c.numbered-sources.ensures ∙ ap (map (numbered_source c.args.labels.now.moved c.args.case)) listed in
    let marked : c.labels.inside.doubtful.now ≡ c.args.labels.now.doubtful = ap (λ (l : LabelsView). l.doubtful) c.labels.view_is in
    let days = days_read setup c.in_ok-docket.docket docketed holds c.args.labels.now _ _ _ c.in_ok-days.ensures c.days.ensures marked in
    let view = rw moved at c.number_view-numbered.ensures ∙ ap (numbered_view c.args.labels.now.moved) (c.in_ok-view.ensures.rows docketed holds.stands ∙ ap (λ b. view_of b docketed (query.Sheet c.args.case)) holds.setup_is) in
    rw sources at (rw view at (rw days at c.case_shown.ensures))
