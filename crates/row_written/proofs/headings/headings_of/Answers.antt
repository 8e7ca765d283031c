use Rattle.std.proofs.Common.{◌≡◌, ◌∙◌, ◌+◌, ◌++◌, ◌∷◌, ◌<◌, ◌≤◌, [], ℕ, List, drop, length, map, ap, sym, arith}
use Rattle.csv.specs.Records.{fields_of}
use Rattle.row_written.specs.Fault.{fault_in}
use Rattle.row_written.specs.Headings.{heading_fault, heading_faults, heading_of, word_at}
use Rattle.row_written.proofs.RowLemmas.{found_all, found_more, heading_faults_next, heading_faults_past, headings_next}
use Rattle.row_written.proofs.headings.headings_of.Goals as goal

pub loop-i-preserved : goal.loop-i-preserved
loop-i-preserved c =
    let fields = fields_of c.args.fields.now in
    let i = c.loop-i.i in
    let text = c.args.text.now in
    let there : i < length fields = omega arith in
    let before = fields_of c.loop-i.headings in
    let after = fields_of c.take_heading.new.headings in
    let headings : after ≡ before ++ heading_of (word_at fields i) ∷ [] = c.in_ok-take_heading.ensures.headings ∙ ap (λ (f : List ℕ). before ++ heading_of f ∷ []) c.word_at.ensures in (
      found_more before (heading_of (word_at fields i) ∷ []) after (map heading_of (drop i fields)) (map heading_of (drop (i + 1) fields)) (map heading_of fields) c.loop-i.invariant.0 (headings_next fields i there) headings,
      found_more (map fault_in c.loop-i.faults.items) (heading_fault text i before (word_at fields i)) (map fault_in c.take_heading.new.faults.items) (heading_faults text i before (drop i fields)) (heading_faults text (i + 1) after (drop (i + 1) fields)) (heading_faults text 0 [] fields)
          c.loop-i.invariant.1
          (heading_faults_next text fields before i there ∙ ap (λ (h : List (List ℕ)). heading_fault text i before (word_at fields i) ++ heading_faults text (i + 1) h (drop (i + 1) fields)) (sym headings))
          (c.in_ok-take_heading.ensures.faults ∙ ap (λ (f : List ℕ). map fault_in c.loop-i.faults.items ++ heading_fault text i before f) c.word_at.ensures),
    )

pub returns-clause-faults : goal.returns-clause-faults
returns-clause-faults c =
    let fields = fields_of c.args.fields.now in
    let past : length fields ≤ c.loop-i.i = omega arith in
    found_all (map fault_in c.loop-i.faults.items) (heading_faults c.args.text.now c.loop-i.i (fields_of c.loop-i.headings) (drop c.loop-i.i fields)) (heading_faults c.args.text.now 0 [] fields)
    c.loop-i.invariant.1 (heading_faults_past c.args.text.now fields (fields_of c.loop-i.headings) c.loop-i.i past)
