use Rattle.std.proofs.Common.{◌≡◌, ◌+◌, ◌∙◌, Some, ap, length, length-append, rules, arith}
use Rattle.versioned_steps.specs.Words.{copies_of, DraftView}
use Rattle.versioned_steps.proofs.CallerLemmas.{reading_more, reading_room}
use Rattle.docket_rows.specs.declared.answer.Answer.{Answer}
use Rattle.docket_rows.specs.declared.command.Command.{Command}
use Rattle.docket_rows.specs.declared.part.PartId.{PartId}
use Rattle.docket_rows.specs.declared.part.PartValue.{PartValue}
use Rattle.shared_docket.specs.Words.{docket_rules}
use Rattle.shared_docket.proofs.CallerLemmas.{docket_lawful}
use Rattle.published_docket.specs.Trails.{TrailView}
use Rattle.published_docket.proofs.CellLemmas.{cell_next}
use Rattle.published_docket.proofs.reading.read_all.Goals as goal

pub value-requires-clause-cell : goal.value-requires-clause-cell
value-requires-clause-cell c =
    let setup = c.args.shown.now.parts in
    let d = c.loop-part.draft in
    let next : (docket_rules setup).next_part d.command (copies_of d.reads) ≡ Some c.in-Some.part = search rules in
    cell_next setup c.requires.small d.command (copies_of d.reads) c.in-Some.part next

pub version-requires-clause-cell : goal.version-requires-clause-cell
version-requires-clause-cell c =
    let setup = c.args.shown.now.parts in
    let d = c.loop-part.draft in
    let next : (docket_rules setup).next_part d.command (copies_of d.reads) ≡ Some c.in-Some.part = search rules in
    cell_next setup c.requires.small d.command (copies_of d.reads) c.in-Some.part next

pub loop-part-smaller : goal.loop-part-smaller
loop-part-smaller c =
    let setup = c.args.shown.now.parts in
    let d = c.loop-part.draft in
    let next : (docket_rules setup).next_part d.command (copies_of d.reads) ≡ Some c.in-Some.part = search rules in
    let room = reading_room (docket_rules setup) (docket_lawful setup) c.args.shown.now.trail.log d c.in-Some.part next c.loop-part.invariant.reading.reads in
    let more : length c.add.new.self.reads ≡ length d.reads + 1 = rw c.in_ok-add.ensures.ok (length-append d.reads _) in
    omega (arith, room, more)

pub loop-part-preserved : goal.loop-part-preserved
loop-part-preserved c =
    let setup = c.args.shown.now.parts in
    let d = c.loop-part.draft in
    let next : (docket_rules setup).next_part d.command (copies_of d.reads) ≡ Some c.in-Some.part = search rules in
    let ok = c.in_ok-add.ensures.ok in
    record {
      clerk = ap (λ (x : DraftView PartId PartValue Command Answer). x.clerk) ok ∙ c.loop-part.invariant.clerk;
      command = ap (λ (x : DraftView PartId PartValue Command Answer). x.command) ok ∙ c.loop-part.invariant.command;
      reading = rw ok
          (reading_more (docket_rules setup) c.args.shown.now.trail.log d c.in-Some.part c.in_ok-value.value c.version.result c.len-at.result
          (c.len-at.ensures ∙ ap (λ (t : TrailView). length t.log) c.trail.ensures) c.version.ensures c.in_ok-value.ensures next c.loop-part.invariant.reading);
    }
