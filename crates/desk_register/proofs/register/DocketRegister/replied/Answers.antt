use Rattle.std.proofs.Common.{◌≡◌, ◌∙◌, List, ap, subst}
use Rattle.std.proofs.lemmas.Result.{IfOk-weaker}
use Rattle.docket_rows.specs.Words.{setup_of}
use Rattle.desk_numbers.specs.declared.moved.Moved.{Moved}
use Rattle.desk_numbers.specs.Words.{NumbersView, placed}
use Rattle.row_forms.specs.declared.row.Work.{Work}
use Rattle.office_texts.specs.Run.Words.{Holds, docketed_then, reply_to}
use Rattle.desk_register.specs.Run.{docketed_by, run_by}
use Rattle.desk_register.proofs.register.DocketRegister.replied.Goals as goal

pub returns-clause-reply : goal.returns-clause-reply
returns-clause-reply c = λ kept stands.
    let under = c.args.under.now in
    let asked = c.args.asked.now in
    let is : c.place-placed.result ≡ placed (run_by under kept).numbers.moved asked =
    c.place-placed.ensures ∙ ap (λ (m : List Moved). placed m asked) (c.moved.ensures ∙ ap (λ (n : NumbersView). n.moved) stands.numbers) in
    IfOk-weaker c.reply_to.result _ _ (λ reply both. both.0 ∙ ap (λ (w : Work). reply_to (setup_of under.court) (docketed_by under kept) w) is) (c.reply_to.ensures (setup_of under.court) (docketed_by under kept) stands.docket)

pub returns-clause-docket : goal.returns-clause-docket
returns-clause-docket c = λ kept stands.
    let under = c.args.under.now in
    let asked = c.args.asked.now in
    let is : c.place-placed.result ≡ placed (run_by under kept).numbers.moved asked =
    c.place-placed.ensures ∙ ap (λ (m : List Moved). placed m asked) (c.moved.ensures ∙ ap (λ (n : NumbersView). n.moved) stands.numbers) in
    IfOk-weaker c.reply_to.result _ _
    (λ reply both. subst (λ (w : Work). Holds (setup_of under.court) c.reply_to.new.docket (docketed_then (setup_of under.court) (docketed_by under kept) w)) is both.1)
    (c.reply_to.ensures (setup_of under.court) (docketed_by under kept) stands.docket)
