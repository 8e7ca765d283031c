use Rattle.std.proofs.Common.{◌++◌, sym, ◌∙◌, ap, length-append}
use Rattle.std.specs.Int.{w32, to_be_bytes}
use Rattle.desk_journal.specs.Frames.{frame_of, checksum}
use Rattle.desk_journal.proofs.pack.push_frame.Goals as goal
use Rattle.desk_journal.proofs.FrameLemmas.{frame_of-durable, frame_of-size, frame_of-content, frame_of-latch, frame_of-second, same_parts}
use Rattle.desk_journal.proofs.BatchLemmas.{pushed}

pub returns-clause-bytes : goal.returns-clause-bytes
returns-clause-bytes c =
    let content = c.args.stamp.now ++ c.args.entry.now in
    let f = frame_of c.args.durable content in
    let d_is = c.to_be_bytes-durable.ensures ∙ sym (frame_of-durable c.args.durable content) in
    let s_is = c.to_be_bytes-size.ensures ∙ ap (to_be_bytes w32) (sym (length-append c.args.stamp.now c.args.entry.now)) ∙ sym (frame_of-size c.args.durable content) in
    let content_is = sym (frame_of-content c.args.durable content) in
    pushed c.args.previous.now c.args.buffer.now.items c.extend_from_slice.new.self.items c.extend_from_slice-2.new.self.items c.extend_from_slice-3.new.self.items c.extend_from_slice-4.new.self.items c.extend_from_slice-5.new.self.items c.extend_from_slice-6.new.self.items
    c.to_be_bytes-durable.result c.to_be_bytes-size.result c.checksum_of-sum.result c.args.stamp.now c.args.entry.now f
    c.in_ok-extend_from_slice.ensures.items c.in_ok-extend_from_slice-2.ensures.items c.in_ok-extend_from_slice-3.ensures.items c.in_ok-extend_from_slice-4.ensures.items c.in_ok-extend_from_slice-5.ensures.items c.in_ok-extend_from_slice-6.ensures.items
    d_is s_is (c.checksum_of-sum.ensures ∙ ap (checksum c.args.previous.now) (same_parts f 43 43 c.to_be_bytes-durable.result c.to_be_bytes-size.result content (sym (frame_of-latch c.args.durable content)) (sym (frame_of-second c.args.durable content)) d_is s_is content_is)) content_is

pub returns-clause-sum : goal.returns-clause-sum
returns-clause-sum c =
    let content = c.args.stamp.now ++ c.args.entry.now in
    let f = frame_of c.args.durable content in
    let d_is = c.to_be_bytes-durable.ensures ∙ sym (frame_of-durable c.args.durable content) in
    let s_is = c.to_be_bytes-size.ensures ∙ ap (to_be_bytes w32) (sym (length-append c.args.stamp.now c.args.entry.now)) ∙ sym (frame_of-size c.args.durable content) in
    let content_is = sym (frame_of-content c.args.durable content) in
    c.checksum_of-sum.ensures ∙ ap (checksum c.args.previous.now) (same_parts f 43 43 c.to_be_bytes-durable.result c.to_be_bytes-size.result content (sym (frame_of-latch c.args.durable content)) (sym (frame_of-second c.args.durable content)) d_is s_is content_is)
