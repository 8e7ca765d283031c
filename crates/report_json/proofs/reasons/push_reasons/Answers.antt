use Rattle.std.proofs.Common.{◌≡◌, ◌++◌, ◌∙◌, List, ap₂, codes, rules}
use Rattle.std.specs.List.{flat_map}
use Rattle.json.specs.Tree.{json_tokens}
use Rattle.deadline_reasons.specs.declared.reason.Reason.{Reason}
use Rattle.reason_texts.specs.declared.course.Course.{Course}
use Rattle.reason_texts.specs.Words.{course_of}
use Rattle.report_json.specs.Reasons.{reason_values}
use Rattle.report_json.proofs.TokenLemmas.{list_field_is}
use Rattle.report_json.proofs.reasons.push_reasons.Goals as goal

pub returns : goal.returns
returns c =
    let e = c.args.explained.now in
    let clock = c.args.court.now.clock in
    let before = c.begin_array.new.self in
    let course : c.of-course.result ≡ course_of e.deadline.row.period = search rules in
    let written : c.push_steps.new.out ≡ before ++ flat_map json_tokens (reason_values clock (course_of e.deadline.row.period) e.reasons.items) =
    c.in_ok-push_steps.ensures ∙ ap₂ (λ (course : Course) (reasons : List Reason). before ++ flat_map json_tokens (reason_values clock course reasons)) course c.deref.ensures.value in
    rw (← list_field_is (codes "reasons") (reason_values clock (course_of e.deadline.row.period) e.reasons.items) c.args.out.now, ← c.in_ok-key.ensures, ← c.in_ok-begin_array.ensures, ← written)
    c.end_array.ensures
