use Rattle.std.proofs.Common.{◌++◌, ℕ, List, ap, string_bytes}
use Rattle.row_forms.specs.declared.row.Row.{Row}
use Rattle.program_streams.proofs.CallerLemmas.{adds_both, adds_same}
use Rattle.clerk_workers.specs.Shared.Merged.{merged_lines}
use Rattle.clerk_workers.proofs.SharedLemmas.MergedTextLemmas.{texts_in}
use Rattle.clerk_workers.proofs.shared.shared_text.SharedTextMadeText.hand_over.Goals as goal

-- the lines of all rows, and then the closing text
pub returns : goal.returns
returns g c =
    let contents = g.W.Write.contents in
    let inside = c.self.inside in
    let left = texts_in inside.lines.items in
    let last = string_bytes inside.closing in
    let Lines : List Row → List ℕ = λ rows. merged_lines 1 rows left in
    let lines = adds_same contents c.args.writer.now c.args.gathered.now c.hand_lines.new.writer c.hand_lines.new.gathered (Lines c.as_slice.result.now) (Lines inside.rows.items) (ap Lines c.as_slice.ensures.value) c.hand_lines.ensures in
    let closing = adds_same contents c.hand_lines.new.writer c.hand_lines.new.gathered c.add.new.writer c.add.new.self c.as_bytes.result.now last c.as_bytes.ensures.value c.add.ensures in
    adds_same contents c.args.writer.now c.args.gathered.now c.add.new.writer c.add.new.self (Lines inside.rows.items ++ last) c.args.self c.self.view_is
    (adds_both contents c.args.writer.now c.args.gathered.now c.hand_lines.new.writer c.hand_lines.new.gathered c.add.new.writer c.add.new.self (Lines inside.rows.items) last lines closing)
