use Rattle.std.proofs.Common.{◌≡◌, ◌∙◌, ◌+◌, ◌++◌, ◌||◌, [], ℕ, List, Option, ap, arith, drop, length, ltb, subst}
use Rattle.std.specs.Io.KnownBytes.{Appends}
use Rattle.std.proofs.KnownBytes.{Appends-nil, Appends-trans}
use Rattle.desk_journal.specs.Words.{StampView, batch_of}
use Rattle.program_streams.specs.Words.{watched}
use Rattle.desk_entries.specs.Words.{note_in, row_only}
use Rattle.row_forms.specs.Words.{names_of}
use Rattle.desk_program.specs.declared.entry_kind.EntryKind.{EntryKind}
use Rattle.desk_program.specs.EntryKind.{kind_of}
use Rattle.desk_program.specs.Log.{entry_log, first_stamp, log_text}
use Rattle.desk_program.proofs.LogLemmas.{counted_once, log_all, log_first, log_more, some_all, some_first, some_more, stamp_of}
use Rattle.desk_program.proofs.log.write_log.Goals as goal

pub loop-place-init : goal.loop-place-init
loop-place-init g c =
    let stamps = c.args.stamps.now in
    let same = stamp_of (first_stamp stamps) c.stamp_at-time.result.0 c.stamp_at-time.result.1.now c.stamp_at-time.ensures.time c.stamp_at-time.ensures.account in (
      omega arith,
      omega arith,
      c.requires.works,
      [],
      Appends-nil (g.W.Write.contents (watched c.args.writer.now)),
      some_first c.has_some-some.result (length c.push_first.new.text.items) (c.has_some-some.ensures ∙ ap (λ (t : List ℕ). ltb 0 (length t)) c.deref-2.ensures.value),
      log_first (names_of c.args.court.now) c.args.choice.now c.in_ok-named.named.items c.args.entries.now stamps (record { time = c.stamp_at-time.result.0; account = c.stamp_at-time.result.1.now }) c.new-text.result.items c.push_first.new.text.items c.in_ok-named.ensures c.new-text.ensures.items same c.in_ok-push_first.ensures,
    )

pub loop-place-preserved : goal.loop-place-preserved
loop-place-preserved g c =
    let choice = c.args.choice.now in
    let named = c.in_ok-named.named.items in
    let entries = c.args.entries.now in
    let stamps = c.args.stamps.now in
    let place = c.loop-place.place in
    let number = c.loop-place.number in
    let entry : List ℕ = c.index-entries-place.result.items in
    let at = c.stamp_at-time-in-loop-place in
    let stamp : StampView = record { time = at.result.0; account = at.result.1.now } in
    let (begun, few, working, written, appends, counted, so_far) = c.loop-place.invariant in
    let (front, more, halves) = c.in_ok-put_if_long.ensures.written in
    let same = stamp_of (first_stamp (drop place stamps)) at.result.0 at.result.1.now at.ensures.time at.ensures.account in
    let said : c.push_entry.new.text.items ≡ c.loop-place.text.items ++ entry_log choice named (kind_of (note_in entry)) number entry stamp =
    c.in_ok-push_entry.ensures
    ∙ ap (λ (n : List (Option ℕ)). c.loop-place.text.items ++ entry_log choice n c.kind_of-kind.result number c.as_slice-entry.result.now stamp) c.deref-in-loop-place.ensures.value
    ∙ ap (λ (k : EntryKind). c.loop-place.text.items ++ entry_log choice named k number c.as_slice-entry.result.now stamp) c.kind_of-kind.ensures
    ∙ ap (λ (e : List ℕ). c.loop-place.text.items ++ entry_log choice named (kind_of (note_in e)) number e stamp) c.as_slice-entry.ensures.value in
    let next : c.row_number_after-number.result ≡ number + length (row_only (note_in entry) entry) =
    c.row_number_after-number.ensures ∙ ap (λ (e : List ℕ). number + length (row_only (note_in e) e)) c.as_slice-entry.ensures.value in (
      omega (arith, begun),
      omega (arith, few, next, counted_once entry),
      c.in_ok-put_if_long.ensures.working,
      written ++ front,
      Appends-trans (g.W.Write.contents (watched c.args.writer.now)) (g.W.Write.contents (watched c.loop-place.writer)) (g.W.Write.contents (watched c.put_if_long.new.writer)) written front appends more,
      some_more c.loop-place.some c.has_some-some-in-loop-place.result written c.loop-place.text.items c.push_entry.new.text.items front c.put_if_long.new.text.items _ counted
          (c.has_some-some-in-loop-place.ensures ∙ ap (λ (t : List ℕ). c.loop-place.some || ltb 0 (length t)) c.deref-in-loop-place-2.ensures.value) said halves,
      log_more choice named number c.row_number_after-number.result entries stamps place c.index-entries-place.result stamp written c.loop-place.text.items c.push_entry.new.text.items front c.put_if_long.new.text.items
          (log_text (names_of c.args.court.now) choice (batch_of entries) stamps) c.loop-place-test.true c.index-entries-place.is same next so_far said halves,
    )

pub returns : goal.returns
returns g c =
    let (begun, few, working, written, appends, counted, so_far) = c.loop-place.invariant in
    let whole = log_all c.args.choice.now c.in_ok-named.named.items c.loop-place.number c.args.entries.now c.args.stamps.now c.loop-place.place written c.loop-place.text.items
    (log_text (names_of c.args.court.now) c.args.choice.now (batch_of c.args.entries.now) c.args.stamps.now) (omega (arith, c.loop-place-test.false)) so_far in
    record {
      written = subst (Appends (g.W.Write.contents (watched c.args.writer.now)) (g.W.Write.contents (watched c.put.new.writer))) whole
          (Appends-trans (g.W.Write.contents (watched c.args.writer.now)) (g.W.Write.contents (watched c.loop-place.writer)) (g.W.Write.contents (watched c.put.new.writer)) written c.loop-place.text.items appends c.in_ok-put.ensures.written);
      some = some_all c.loop-place.some written c.loop-place.text.items _ counted whole;
    }
