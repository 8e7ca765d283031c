use Rattle.std.proofs.Common.{◌++◌, ◌∙◌, codes}
use Rattle.std.specs.Fmt.{decimal}
use Rattle.program_streams.proofs.CallerLemmas.{adds_both, adds_same}
use Rattle.clerk_workers.proofs.shared.shared_text.hand_numbers.Goals as goal

pub returns : goal.returns
returns g c =
    let contents = g.W.Write.contents in
    let writer = c.args.writer.now in
    let waiting = c.args.gathered.now in
    let row = decimal c.args.number in
    let clerk = decimal c.args.clerk in
    let first = adds_same contents writer waiting c.add.new.writer c.add.new.self c.as_bytes.result.now row (c.as_bytes.ensures.value ∙ c.format.ensures.text) c.add.ensures in
    let second = adds_both contents writer waiting c.add.new.writer c.add.new.self c.add-2.new.writer c.add-2.new.self row (codes " ") first c.add-2.ensures in
    let number = adds_same contents c.add-2.new.writer c.add-2.new.self c.add-3.new.writer c.add-3.new.self c.as_bytes-2.result.now clerk (c.as_bytes-2.ensures.value ∙ c.format-2.ensures.text) c.add-3.ensures in
    let third = adds_both contents writer waiting c.add-2.new.writer c.add-2.new.self c.add-3.new.writer c.add-3.new.self (row ++ codes " ") clerk second number in
    adds_both contents writer waiting c.add-3.new.writer c.add-3.new.self c.add-4.new.writer c.add-4.new.self ((row ++ codes " ") ++ clerk) (codes " ") third c.add-4.ensures
