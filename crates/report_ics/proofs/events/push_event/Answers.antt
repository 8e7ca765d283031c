use Rattle.std.proofs.Common.{◌++◌, codes}
use Rattle.content_lines.specs.Words.{property}
use Rattle.report_ics.specs.Events.{begin_lines, event_lines, sequence_lines, status_lines, time_lines, word_lines}
use Rattle.report_ics.proofs.EventLemmas.{line_more, part_more}
use Rattle.report_ics.proofs.events.push_event.Goals as goal

pub returns : goal.returns
unfolding event_lines
returns c =
    let court = c.args.court.now in
    let labels = c.args.labels.now in
    let a = c.args.appointment.now in
    let begin = begin_lines c.args.stamp a.item in
    let sequence = sequence_lines a.revision in
    let status = status_lines a.cancelled in
    let times = time_lines court.clock a.item.day a.item.matter in
    let words = word_lines court labels a in
    let timed = rw c.clock.ensures at c.in_ok-push_times.ensures in
    line_more _ _ _ (begin ++ sequence ++ status ++ times ++ words) (property (codes "END") (codes "VEVENT"))
    (part_more _ _ _ (begin ++ sequence ++ status ++ times) words
    (part_more _ _ _ (begin ++ sequence ++ status) times
    (part_more _ _ _ (begin ++ sequence) status
    (part_more _ _ _ begin sequence c.in_ok-push_begin.ensures c.in_ok-push_sequence.ensures)
    c.in_ok-push_status.ensures) timed) c.in_ok-push_words.ensures) c.in_ok-push_property.ensures
