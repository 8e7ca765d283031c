use Rattle.std.proofs.Common.{◌≡◌, ◌∙◌, IfOk, string_bytes, ap, subst}
use Rattle.docket_rows.specs.Words.{CourtSetup, parts_of, setup_of}
use Rattle.shared_docket.specs.Words.{rows_of}
use Rattle.docket_core.specs.Words.{parts_held}
use Rattle.office_texts.specs.Run.Words.{closing_text}
use Rattle.office_texts.proofs.RunLemmas.CallerLemmas.{closing_same}
use Rattle.published_docket.specs.Words.{BoardView}
use Rattle.clerk_workers.proofs.shared.closing.closing_of.Goals as goal

pub returns-in-Some : goal.returns-in-Some
returns-in-Some c =
    let court = c.args.court.now in
    let b = c.in-Some.board.value in
    let has = rw c.in-Some.is at c.requires in
    let same : rows_of c.new.result.parts c.new.result.trail.log ≡ rows_of (setup_of court) c.args.journal.now =
    ap (λ (x : BoardView). rows_of x.parts x.trail.log) c.new.ensures
    ∙ ap (λ (s : CourtSetup). rows_of s b.trail.log) has.1
    ∙ ap (rows_of (setup_of court)) has.2 in
    subst (λ rows. IfOk c.closing_by-in-Some.result (λ text. string_bytes text ≡ closing_text court (parts_of rows))) same c.closing_by-in-Some.ensures

pub returns-in_ok-docket-in-None : goal.returns-in_ok-docket-in-None
returns-in_ok-docket-in-None c =
    let court = c.args.court.now in
    let d = c.in_ok-docket-in-None.field-0 in
    let rows = rows_of (setup_of court) c.args.journal.now in
    let same = closing_same court (parts_held d) (parts_of rows) c.in_ok-docket-in-None.ensures.rows in
    subst (λ closing. IfOk c.closing_by-in-None-2.result (λ text. string_bytes text ≡ closing)) same c.closing_by-in-None-2.ensures
