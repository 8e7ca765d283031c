use Rattle.std.proofs.Common.{◌∙◌, ◌+◌, ◌++◌, ◌<◌, ◌≤◌, ℕ, List, drop, length, map, ap, arith}
use Rattle.std.specs.Prelude.{option_map}
use Rattle.csv.specs.Records.{fields_of}
use Rattle.row_written.specs.Fault.{fault_in}
use Rattle.row_written.specs.Headings.{word_at}
use Rattle.row_written.specs.Rows.{excess_fault, excess_faults}
use Rattle.row_written.proofs.RowLemmas.{excess_next, excess_past, found_all, found_more}
use Rattle.row_written.proofs.excess.push_excesses.Goals as goal

pub loop-i-preserved : goal.loop-i-preserved
loop-i-preserved c =
    let fields = fields_of c.args.fields.now in
    let i = c.loop-i.i in
    let header = option_map fields_of c.args.header.now in
    let columns = c.args.columns.now in
    let text = c.args.text.now in
    let there : i < length fields = omega arith in
    found_more (map fault_in c.loop-i.faults.items) (excess_fault header columns text i (word_at fields i)) (map fault_in c.push_excess.new.faults.items) (excess_faults header columns text i (drop i fields)) (excess_faults header columns text (i + 1) (drop (i + 1) fields))
    (map fault_in c.args.faults.now.items ++ excess_faults header columns text 0 fields) c.loop-i.invariant (excess_next header columns text fields i there)
    (c.in_ok-push_excess.ensures ∙ ap (λ (f : List ℕ). map fault_in c.loop-i.faults.items ++ excess_fault header columns text i f) c.word_at.ensures)

pub returns : goal.returns
returns c =
    let fields = fields_of c.args.fields.now in
    let header = option_map fields_of c.args.header.now in
    let past : length fields ≤ c.loop-i.i = omega arith in
    found_all (map fault_in c.loop-i.faults.items) (excess_faults header c.args.columns.now c.args.text.now c.loop-i.i (drop c.loop-i.i fields)) (map fault_in c.args.faults.now.items ++ excess_faults header c.args.columns.now c.args.text.now 0 fields)
    c.loop-i.invariant (excess_past header c.args.columns.now c.args.text.now fields c.loop-i.i past)
