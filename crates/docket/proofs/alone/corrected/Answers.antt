use Rattle.std.proofs.Common.{◌≡◌, ◌∙◌, ℕ, List, ap, sym}
use Rattle.desk_program.specs.Words.{standing_at}
use Rattle.docket.specs.Sessions.{done_text, remark_by}
use Rattle.docket.proofs.alone.corrected.Goals as goal

pub returns : goal.returns
returns g c = λ keeps.
    let under = standing_at c.args.desk.now in
    let remark : c.as_slice.result.now ≡ remark_by (done_text c.args.done) under c.args.account.now c.args.correcting.now =
    c.as_slice.ensures.value ∙ c.in_ok-remark.ensures under (sym c.court.ensures) ∙ ap (λ (t : List ℕ). remark_by t under c.args.account.now c.args.correcting.now) c.done_text.ensures in
    rw remark at (c.correct_row.ensures.corrected keeps)
