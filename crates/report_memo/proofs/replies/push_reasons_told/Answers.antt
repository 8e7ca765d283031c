use Rattle.std.proofs.Common.{◌≡◌, ◌∙◌, None, true, sym}
use Rattle.report_memo.specs.Replies.{deadline_told, is_computed}
use Rattle.report_memo.proofs.DocketLemmas.{computed_shows}
use Rattle.report_memo.proofs.replies.push_reasons_told.Goals as goal

pub returns-in-None : goal.returns-in-None
returns-in-None c docketed answered =
    let none : deadline_told c.args.work.now c.args.reply.now ≡ None = sym c.in-None.ensures in
    let computed : is_computed c.args.reply.now ≡ true = sym c.is_computed.ensures ∙ c.if-is_computed.true in
    let shows = computed_shows c.args.reply.now computed in
    rw (none, computed) (c.push_reasons_asked.ensures docketed shows.0 (rw shows.1 at answered))
