use Rattle.std.proofs.Common.{◌≤◌, ◌+◌, ◌++◌, ◌∙◌, ◌∷◌, drop, length, append_assoc, append-nil, sym, ap, arith}
use Rattle.std.proofs.lemmas.List.{at_drop_more, at_drop_all}
use Rattle.std.specs.List.{flat_map}
use Rattle.json.specs.Tree.{json_tokens}
use Rattle.reason_texts.specs.Words.{course_after}
use Rattle.report_json.specs.Reasons.{reason_value, reason_values}
use Rattle.report_json.proofs.reasons.push_steps.Goals as goal

pub loop-reason-preserved : goal.loop-reason-preserved
unfolding reason_values
loop-reason-preserved c =
    let clock = c.args.court.now.clock in
    let reasons = c.args.reasons.now in
    let i = c.loop-reason.reason-index in
    let here = c.loop-reason.here in
    let reason = c.reason-item.result in
    let before = c.loop-reason.out in
    let line = json_tokens (reason_value clock here reason) in
    let later = flat_map json_tokens (reason_values clock (course_after here reason) (drop (i + 1) reasons)) in
    let step = at_drop_more (λ rest. flat_map json_tokens (reason_values clock here rest)) reasons i reason c.loop-reason-test.true ∙ ap (λ r. flat_map json_tokens (reason_values clock here (r ∷ drop (i + 1) reasons))) (sym c.reason-item.is) in
    rw (c.in_ok-write.ensures, c.after-here.ensures) (append_assoc before line later ∙ ap (λ s. before ++ s) (sym step) ∙ c.loop-reason.invariant)

pub returns : goal.returns
unfolding reason_values
returns c =
    let past : length c.args.reasons.now ≤ c.loop-reason.reason-index = omega (arith, c.loop-reason-test.false) in
    let none = at_drop_all (λ rest. flat_map json_tokens (reason_values c.args.court.now.clock c.loop-reason.here rest)) c.args.reasons.now c.loop-reason.reason-index past in
    sym (append-nil _) ∙ rw none at c.loop-reason.invariant
