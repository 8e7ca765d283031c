use Rattle.std.proofs.Common.{◌≡◌, ◌∙◌, ◌+◌, ℕ, List, ap, arith, drop, length}
use Rattle.desk_journal.specs.Words.{StampView}
use Rattle.desk_entries.specs.Words.{note_in, row_only}
use Rattle.desk_program.specs.EntryKind.{kind_of}
use Rattle.desk_program.specs.Log.{entry_log, first_stamp}
use Rattle.desk_program.proofs.LogLemmas.{counted_once, stamp_of}
use Rattle.desk_program.proofs.LogLastLemmas.{said_all, said_first, said_more}
use Rattle.desk_program.proofs.log_last.texts_said.Goals as goal

pub loop-place-init : goal.loop-place-init
loop-place-init c = (omega arith, omega arith, said_first c.args.choice.now c.args.named.now c.args.entries.now c.args.stamps.now c.new-texts.result.items c.new-texts.ensures.items)

pub loop-place-preserved : goal.loop-place-preserved
loop-place-preserved c =
    let choice = c.args.choice.now in
    let named = c.args.named.now in
    let stamps = c.args.stamps.now in
    let place = c.loop-place.place in
    let number = c.loop-place.number in
    let entry : List ℕ = c.index-entries-place.result.items in
    let at = c.stamp_at-time in
    let stamp : StampView = record { time = at.result.0; account = at.result.1.now } in
    let (begun, few, so_far) = c.loop-place.invariant in
    let same = stamp_of (first_stamp (drop place stamps)) at.result.0 at.result.1.now at.ensures.time at.ensures.account in
    let says : c.in_ok-text.text.items ≡ entry_log choice named (kind_of (note_in entry)) number entry stamp =
    c.in_ok-text.ensures ∙ ap (λ (e : List ℕ). entry_log choice named (kind_of (note_in e)) number e stamp) c.as_slice-entry.ensures.value in
    let next : c.row_number_after-number.result ≡ number + length (row_only (note_in entry) entry) =
    c.row_number_after-number.ensures ∙ ap (λ (e : List ℕ). number + length (row_only (note_in e) e)) c.as_slice-entry.ensures.value in (
      omega (arith, begun),
      omega (arith, few, next, counted_once entry),
      said_more choice named number c.row_number_after-number.result c.args.entries.now stamps place c.index-entries-place.result c.in_ok-text.text stamp c.loop-place.texts.items c.push_if_said.new.texts.items _
          c.loop-place-test.true c.index-entries-place.is same next says c.in_ok-push_if_said.ensures so_far,
    )

pub returns : goal.returns
returns c =
    let (begun, few, so_far) = c.loop-place.invariant in
    said_all c.args.choice.now c.args.named.now c.loop-place.number c.args.entries.now c.args.stamps.now c.loop-place.place c.loop-place.texts.items _ (omega (arith, c.loop-place-test.false)) so_far
