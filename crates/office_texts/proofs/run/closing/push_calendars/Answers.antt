use Rattle.std.proofs.Common.{◌≡◌, ◌+◌, ◌-◌, ◌++◌, ◌∙◌, string_bytes, append_assoc, append-nil, sym, ap, arith}
use Rattle.office_texts.specs.Words.{calendar_lines}
use Rattle.office_texts.specs.Run.Text.{calendars_from}
use Rattle.office_texts.proofs.RunLemmas.RunLemmas.{calendars_more}
use Rattle.office_texts.proofs.run.closing.push_calendars.Goals as goal

pub loop-judge-preserved : goal.loop-judge-preserved
loop-judge-preserved g c =
    let court = c.args.court.now in
    let parts = g.D.Closing.parts c.args.docket.now in
    let judge = c.loop-judge.judge in
    let end = c.args.first + c.args.count in
    let before = string_bytes c.loop-judge.text in
    let lines = calendar_lines court judge (parts.judge judge) in
    let later = calendars_from court parts (judge + 1) (end - (judge + 1)) in
    record {
      within = omega (arith, c.loop-judge-test.true);
      so_far = rw c.in_ok-push_judge.ensures (append_assoc before lines later ∙ ap (λ s. before ++ s) (sym (calendars_more court parts judge end (omega (arith, c.loop-judge-test.true)))) ∙ c.loop-judge.invariant.so_far);
    }

pub returns : goal.returns
unfolding calendars_from
returns g c =
    let none : c.args.first + c.args.count - c.loop-judge.judge ≡ 0 = omega (arith, c.loop-judge-test.false) in
    sym (append-nil _) ∙ rw none at c.loop-judge.invariant.so_far
