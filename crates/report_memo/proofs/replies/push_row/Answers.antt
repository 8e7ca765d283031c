use Rattle.std.proofs.Common.{refl}
use Rattle.docket_rows.specs.Words.{setup_of}
use Rattle.office_texts.specs.Run.Words.{docketed_then}
use Rattle.report_memo.proofs.DaysLemmas.{renewed}
use Rattle.report_memo.proofs.TextLemmas.{on_ok}
use Rattle.report_memo.proofs.replies.push_row.Goals as goal

pub returns-clause-text : goal.returns-clause-text
returns-clause-text c docketed holds read =
    let setup = setup_of c.args.court.now in
    let work = c.args.row.now.row.work in
    let after = docketed_then setup docketed work in
    let replied = c.in_ok-reply.ensures setup docketed holds in
    let days = renewed setup docketed work _ c.args.labels.now _ _ _ replied.0 replied.1 read c.in_ok-renew.ensures in
    on_ok c.push_explained.result (λ added. rw replied.0 at added) (c.push_explained.ensures after (record { before = docketed; said = replied.0; left = refl; holds = replied.1; read = days }))

pub returns-clause-days : goal.returns-clause-days
returns-clause-days c docketed holds read =
    let setup = setup_of c.args.court.now in
    let replied = c.in_ok-reply.ensures setup docketed holds in
    on_ok c.push_explained.result (λ added. renewed setup docketed c.args.row.now.row.work _ c.args.labels.now _ _ _ replied.0 replied.1 read c.in_ok-renew.ensures) (c.push_explained.ensures (docketed_then setup docketed c.args.row.now.row.work) (record { before = docketed; said = replied.0; left = refl; holds = replied.1; read = renewed setup docketed c.args.row.now.row.work _ c.args.labels.now _ _ _ replied.0 replied.1 read c.in_ok-renew.ensures }))
