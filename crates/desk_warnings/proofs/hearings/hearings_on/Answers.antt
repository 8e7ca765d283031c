use Rattle.std.proofs.Common.{◌∙◌, ◌+◌, ◌-◌, ◌++◌, length, string_bytes, append_assoc, sym, ap, arith}
use Rattle.docket_core.specs.Words.{parts_held}
use Rattle.desk_warnings.specs.Warnings.{hearings_of}
use Rattle.desk_warnings.proofs.HearingLemmas.{hearings_from, hearings_more}
use Rattle.desk_warnings.proofs.hearings.hearings_on.Goals as goal

pub loop-judge-preserved : goal.loop-judge-preserved
loop-judge-preserved c =
    let court = c.args.court.now in
    let moved = c.args.moved.now in
    let named = c.args.cases.now.named in
    let parts = parts_held c.args.docket.now in
    let judge = c.loop-judge.judge in
    let end = length court.judges in
    let before = string_bytes c.loop-judge.text in
    let lines = hearings_of court moved named parts c.args.day judge in
    let later = hearings_from court moved named parts c.args.day (judge + 1) (end - (judge + 1)) in
    record {
      within = omega (arith, c.loop-judge-test.true, c.judges-judge-end.ensures.value);
      so_far = λ setup. rw (c.in_ok-push_judge.ensures setup) (append_assoc before lines later ∙ ap (λ s. before ++ s) (sym (hearings_more court moved named parts c.args.day judge end (omega (arith, c.loop-judge-test.true, c.judges-judge-end.ensures.value)))) ∙ c.loop-judge.invariant.so_far setup);
    }
