use Rattle.std.proofs.Common.{List, ℕ, ◌+◌, [], ◌∷◌, length, drop, refl, ◌∙◌, ap, subst, arith, length-append, length-drop}
use Rattle.std.proofs.lemmas.List.Elements.{All-append}
use Rattle.desk_journal.specs.Frames.{IsFrame, first_checksum, frames, size_of_last}
use Rattle.desk_journal.specs.Batches.{frames_after, frames_of}
use Rattle.desk_journal.specs.Disks.{IsDurable}
use Rattle.desk_journal.proofs.journal.Journal.add.Goals as goal
use Rattle.desk_journal.proofs.BatchLemmas.{are_frames}
use Rattle.desk_journal.proofs.CrashLemmas.{left_begins, opened}
use Rattle.desk_journal.proofs.FaultLemmas.{no_number}
use Rattle.desk_journal.proofs.StampLemmas.{last_time-append}
use Rattle.desk_journal.proofs.KeptLemmas.{packed_is, end_more, count_more, last_more, left_of_append, size_more, some_bytes}

pub returns-in_err-publish-in-Some-clause-crash : goal.returns-in_err-publish-in-Some-clause-crash
returns-in_err-publish-in-Some-clause-crash g c = λ fs kept x left.
    left_of_append fs c.args.batch.now c.requires.some c.args.self.now.stamp c.args.self.now.count c.args.self.now.last c.pack_whole.new.buffer.items c.split_at.result.1.now kept.count kept.last c.in_ok-last.ensures.bytes (c.split_at.ensures.back ∙ ap (drop 2) c.deref.ensures.value) c.in_ok-last.ensures.stamp kept.whole c.in_ok-last.ensures.short x
    (c.publish.ensures.crash (frames first_checksum fs) kept.end kept.file x left)

pub returns-in_ok-publish-in-Some-clause-crash : goal.returns-in_ok-publish-in-Some-clause-crash
returns-in_ok-publish-in-Some-clause-crash g c = λ fs kept x left.
    left_of_append fs c.args.batch.now c.requires.some c.args.self.now.stamp c.args.self.now.count c.args.self.now.last c.pack_whole.new.buffer.items c.split_at.result.1.now kept.count kept.last c.in_ok-last.ensures.bytes (c.split_at.ensures.back ∙ ap (drop 2) c.deref.ensures.value) c.in_ok-last.ensures.stamp kept.whole c.in_ok-last.ensures.short x
    (c.publish.ensures.crash (frames first_checksum fs) kept.end kept.file x left)

pub returns-in_ok-publish-in-Some-clause-kept : goal.returns-in_ok-publish-in-Some-clause-kept
returns-in_ok-publish-in-Some-clause-kept g c = λ fs kept.
    record {
      whole = All-append IsFrame fs (frames_of (length fs) c.args.self.now.stamp c.args.batch.now) kept.whole (are_frames (length fs) c.args.self.now.stamp c.args.batch.now c.in_ok-last.ensures.stamp c.in_ok-last.ensures.short);
      file = subst (λ (file : List ℕ). IsDurable g.D.Disk file c.publish.new.disk)
          (opened fs kept.whole (frames_of (length fs) c.args.self.now.stamp c.args.batch.now) (are_frames (length fs) c.args.self.now.stamp c.args.batch.now c.in_ok-last.ensures.stamp c.in_ok-last.ensures.short) c.split_at.result.1.now
          (packed_is fs c.args.batch.now c.requires.some c.args.self.now.stamp c.args.self.now.count c.args.self.now.last c.pack_whole.new.buffer.items c.split_at.result.1.now kept.count kept.last c.in_ok-last.ensures.bytes (c.split_at.ensures.back ∙ ap (drop 2) c.deref.ensures.value)))
          (c.in_ok-publish-in-Some.ensures.durable (frames first_checksum fs) kept.end kept.file);
      end = end_more fs c.args.batch.now c.requires.some c.args.self.now.stamp c.args.self.now.count c.args.self.now.last c.pack_whole.new.buffer.items c.split_at.result.1.now kept.count kept.last c.in_ok-last.ensures.bytes (c.split_at.ensures.back ∙ ap (drop 2) c.deref.ensures.value) c.args.self.now.end c.in-Some.end kept.end (omega (arith, c.in-Some.ensures));
      count = count_more fs c.args.batch.now c.requires.some c.args.self.now.stamp c.args.self.now.count c.args.self.now.last c.pack_whole.new.buffer.items c.split_at.result.1.now kept.count kept.last c.in_ok-last.ensures.bytes (c.split_at.ensures.back ∙ ap (drop 2) c.deref.ensures.value) (c.args.self.now.count + length c.args.batch.now) refl;
      few = omega (arith, c.requires.room, kept.count, count_more fs c.args.batch.now c.requires.some c.args.self.now.stamp c.args.self.now.count c.args.self.now.last c.pack_whole.new.buffer.items c.split_at.result.1.now kept.count kept.last c.in_ok-last.ensures.bytes (c.split_at.ensures.back ∙ ap (drop 2) c.deref.ensures.value) (c.args.self.now.count + length c.args.batch.now) refl);
      last_size = size_more fs c.args.batch.now c.requires.some c.args.self.now.stamp c.args.self.now.count c.args.self.now.last c.pack_whole.new.buffer.items c.split_at.result.1.now kept.count kept.last c.in_ok-last.ensures.bytes (c.split_at.ensures.back ∙ ap (drop 2) c.deref.ensures.value) c.args.self.now.last_size c.size_of_last-self.result kept.last_size
          (λ durable. c.size_of_last-self.ensures durable ∙ ap (λ (l : List ℕ). size_of_last c.args.self.now.last_size (frames_after durable l c.args.batch.now)) (c.deref-in-Some.ensures.value ∙ c.in_ok-last.ensures.front));
      time = last_time-append fs (length fs) c.args.self.now.stamp c.args.batch.now c.in_ok-last.ensures.stamp kept.time;
      last = last_more fs c.args.batch.now c.requires.some c.args.self.now.stamp c.args.self.now.count c.args.self.now.last c.pack_whole.new.buffer.items c.split_at.result.1.now kept.count kept.last c.in_ok-last.ensures.bytes (c.split_at.ensures.back ∙ ap (drop 2) c.deref.ensures.value) c.in_ok-last.last c.in_ok-last.ensures.sum;
    }

pub returns-in-None-clause-cause : goal.returns-in-None-clause-cause
returns-in-None-clause-cause g c = λ fs kept.
    no_number fs (length fs) c.args.self.now.stamp c.args.batch.now (c.args.self.now.end + length c.split_at.result.1.now)
    (All-append IsFrame fs (frames_of (length fs) c.args.self.now.stamp c.args.batch.now) kept.whole (are_frames (length fs) c.args.self.now.stamp c.args.batch.now c.in_ok-last.ensures.stamp c.in_ok-last.ensures.short))
    (end_more fs c.args.batch.now c.requires.some c.args.self.now.stamp c.args.self.now.count c.args.self.now.last c.pack_whole.new.buffer.items c.split_at.result.1.now kept.count kept.last c.in_ok-last.ensures.bytes (c.split_at.ensures.back ∙ ap (drop 2) c.deref.ensures.value) c.args.self.now.end (c.args.self.now.end + length c.split_at.result.1.now) kept.end refl)
    (omega (arith, c.in-None.ensures))

pub returns-in_err-publish-in-Some-clause-begins : goal.returns-in_err-publish-in-Some-clause-begins
returns-in_err-publish-in-Some-clause-begins g c = λ fs kept x left.
    left_begins fs c.split_at.result.1.now x (c.publish.ensures.crash (frames first_checksum fs) kept.end kept.file x left)

pub returns-in_ok-publish-in-Some-clause-begins : goal.returns-in_ok-publish-in-Some-clause-begins
returns-in_ok-publish-in-Some-clause-begins g c = λ fs kept x left.
    left_begins fs c.split_at.result.1.now x (c.publish.ensures.crash (frames first_checksum fs) kept.end kept.file x left)

pub publish-requires-clause-some : goal.publish-requires-clause-some
publish-requires-clause-some g c =
    omega (
      arith,
      ap length (c.split_at.ensures.back ∙ ap (drop 2) c.deref.ensures.value),
      length-drop 2 c.pack_whole.new.buffer.items,
      ap length c.in_ok-last.ensures.bytes,
      length-append (frames c.args.self.now.last (frames_of c.args.self.now.count c.args.self.now.stamp c.args.batch.now)) (45 ∷ 45 ∷ []),
      some_bytes c.args.self.now.last c.args.self.now.count c.args.self.now.stamp c.args.batch.now c.requires.some,
    )

pub publish-requires-clause-fits : goal.publish-requires-clause-fits
publish-requires-clause-fits g c =
    omega (
      arith,
      c.in-Some.ensures,
      ap length (c.split_at.ensures.back ∙ ap (drop 2) c.deref.ensures.value),
      length-drop 2 c.pack_whole.new.buffer.items,
      ap length c.in_ok-last.ensures.bytes,
      length-append (frames c.args.self.now.last (frames_of c.args.self.now.count c.args.self.now.stamp c.args.batch.now)) (45 ∷ 45 ∷ []),
      some_bytes c.args.self.now.last c.args.self.now.count c.args.self.now.stamp c.args.batch.now c.requires.some,
    )
