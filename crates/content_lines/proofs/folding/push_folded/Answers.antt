use Rattle.std.proofs.Common.{◌<◌, ◌≤◌, ◌++◌, ◌∙◌, ap, string_bytes, arith}
use Rattle.std.specs.Char.{len_utf8}
use Rattle.std.specs.Str.Iter.{chars_rest}
use Rattle.content_lines.specs.Folding.{folded}
use Rattle.content_lines.proofs.CharacterLemmas.{none_that_is_left, one_after_a_fold, one_that_fits}
use lib.Utf8.{encode}
use Rattle.content_lines.proofs.folding.push_folded.Goals as goal
use Rattle.content_lines.proofs.folding.push_folded.Goals.{then-width-room+in_ok-push_str, else-width-room}

pub loop-c-preserved : goal.loop-c-preserved
loop-c-preserved c =
    let rest = chars_rest c.next.new.self in
    let whole = string_bytes c.args.text.now ++ folded 75 c.args.line.now in
    let width = c.len_utf8-width.ensures.value in
    let before = c.loop-c.invariant in
    elim c.if-width-room.branch [
      | then-width-room+in_ok-push_str w ↦
          let more : c.loop-c.room < len_utf8 c.in-Some.c = omega (arith, width) in
          record {
            room = omega (arith, w.room-is);
            whole = rw (w.room-is, width) (one_after_a_fold (string_bytes c.loop-c.text) (string_bytes w.push_str.new.self) (string_bytes c.push.new.self) rest (chars_rest c.loop-c.c-iterator) whole c.loop-c.room c.in-Some.c c.in-Some.ensures.steps.0 more w.in_ok-push_str.ensures.bytes (c.in_ok-push.ensures.bytes ∙ ap (λ t. string_bytes t ++ encode c.in-Some.c) w.text-is) before.whole);
          }
      | else-width-room w ↦
          let fits : len_utf8 c.in-Some.c ≤ c.loop-c.room = omega (arith, width, w.if-width-room.false) in
          record {
            room = omega (arith, w.room-is, before.room);
            whole = rw (w.room-is, width) (one_that_fits (string_bytes c.loop-c.text) (string_bytes c.push.new.self) rest (chars_rest c.loop-c.c-iterator) whole c.loop-c.room c.in-Some.c c.in-Some.ensures.steps.0 fits (c.in_ok-push.ensures.bytes ∙ ap (λ t. string_bytes t ++ encode c.in-Some.c) w.text-is) before.whole);
          }
    ]

pub returns : goal.returns
returns c = none_that_is_left (string_bytes c.loop-c.text) (chars_rest c.loop-c.c-iterator) _ c.loop-c.room c.in-None.ensures.steps.0.0 c.loop-c.invariant.whole
