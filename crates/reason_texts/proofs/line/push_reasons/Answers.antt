use Rattle.std.proofs.Common.{◌≡◌, ◌≤◌, ◌+◌, ◌++◌, ◌∙◌, drop, length, string_bytes, append_assoc, append-nil, sym, ap, arith}
use Rattle.std.proofs.lemmas.List.{at_drop_more, at_drop_all}
use Rattle.reason_texts.specs.Course.{course_after}
use Rattle.reason_texts.specs.Line.{lines_of, reason_lines}
use Rattle.reason_texts.proofs.line.push_reasons.Goals as goal

pub loop-reason-preserved : goal.loop-reason-preserved
unfolding reason_lines
loop-reason-preserved c =
    let clock = c.args.clock.now in
    let names = c.args.names.now in
    let reasons = c.args.reasons.now in
    let i = c.loop-reason.reason-index in
    let here = c.loop-reason.here in
    let reason = c.reason-item.result in
    let before = string_bytes c.loop-reason.text in
    let line = lines_of clock names here reason in
    let later = reason_lines clock names (course_after here reason) (drop (i + 1) reasons) in
    let step : reason_lines clock names here (drop i reasons) ≡ line ++ later =
    at_drop_more (reason_lines clock names here) reasons i reason c.loop-reason-test.true ∙ ap (λ r. lines_of clock names here r ++ reason_lines clock names (course_after here r) (drop (i + 1) reasons)) (sym c.reason-item.is) in
    rw (c.in_ok-push_lines.ensures, c.after-here.ensures) (append_assoc before line later ∙ ap (λ s. before ++ s) (sym step) ∙ c.loop-reason.invariant)

pub returns : goal.returns
unfolding reason_lines
returns c =
    let past : length c.args.reasons.now ≤ c.loop-reason.reason-index = omega (arith, c.loop-reason-test.false) in
    let none = at_drop_all (reason_lines c.args.clock.now c.args.names.now c.loop-reason.here) c.args.reasons.now c.loop-reason.reason-index past in
    sym (append-nil _) ∙ rw none at c.loop-reason.invariant
