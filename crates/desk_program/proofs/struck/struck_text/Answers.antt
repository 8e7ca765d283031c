use Rattle.std.proofs.Common.{◌≡◌, ◌∙◌, ◌+◌, ◌++◌, ℕ, List, ap, arith, drop, sym}
use Rattle.desk_journal.specs.Words.{batch_of}
use Rattle.desk_numbers.specs.Strikes.Words.{restore_in}
use Rattle.desk_program.specs.Struck.{restored_as, rows_restored, struck_line, struck_text}
use Rattle.desk_program.proofs.StruckLemmas.{restored_next, struck_all, struck_next}
use Rattle.desk_program.proofs.struck.struck_text.Goals as goal

pub loop-entry-preserved : goal.loop-entry-preserved
loop-entry-preserved c =
    let entries = c.args.entries.now in
    let place = c.loop-entry.entry-index in
    let entry = c.entry-item.result in
    let later = rows_restored (batch_of (drop (place + 1) entries)) in
    let (from, so_far) = c.loop-entry.invariant in
    let left : c.loop-entry.restored.now ≡ restored_as (restore_in c.deref.result.now) ++ later =
    restored_next entries place entry c.loop-entry.restored.now c.loop-entry-test.true c.entry-item.is from
    ∙ ap (λ (e : List ℕ). restored_as (restore_in e) ++ later) (sym c.deref.ensures.value) in
    let restored : c.restored_after-restored.result.now ≡ later = c.restored_after-restored.ensures later left in (
      restored,
      struck_next entries place entry c.restored_after-restored.result.now c.loop-entry.text.items c.push_struck.new.text.items (struck_text (batch_of entries)) c.loop-entry-test.true c.entry-item.is restored
          (c.in_ok-push_struck.ensures ∙ ap (λ (e : List ℕ). c.loop-entry.text.items ++ struck_line e c.restored_after-restored.result.now) c.deref-in-loop-entry.ensures.value) so_far,
    )

pub returns : goal.returns
returns c =
    let (from, so_far) = c.loop-entry.invariant in
    struck_all c.args.entries.now c.loop-entry.entry-index c.loop-entry.text.items (struck_text (batch_of c.args.entries.now)) (omega (arith, c.loop-entry-test.false)) so_far
