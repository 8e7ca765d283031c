use Rattle.std.proofs.Common.{◌∙◌, ℕ, List, ap, sym, arith}
use Rattle.std.specs.Prelude.{filter, string_bytes}
use Rattle.row_forms.specs.Words.{names_of}
use Rattle.row_fields.specs.Words.{said_map}
use Rattle.row_written.specs.Names.{named, said_among, same_name}
use Rattle.row_written.proofs.RowLemmas.{choice_passed, choice_taken}
use Rattle.row_written.proofs.names.name_said.Goals as goal
use Rattle.row_written.proofs.names.name_said.Goals.{then-branch, else-branch}

pub loop-number-preserved : goal.loop-number-preserved
loop-number-preserved c =
    let names = named (names_of c.args.court.now) c.args.of in
    let text = string_bytes c.in_ok-plain.plain in
    let said = said_map (λ n. n.now) c.loop-number.said in
    let all = said_among (filter (same_name text) names) in
    elim c.if-branch.branch [
      | then-branch w ↦
          rw (w.said-is, w.with_choice-said.ensures, c.name_at-name.ensures)
          (choice_taken (same_name text) names c.loop-number.number said all c.loop-number.invariant (omega arith)
          (ap (same_name text) (sym c.name_at-name.ensures) ∙ ap (λ (t : List ℕ). same_name t c.name_at-name.result.now) (sym c.as_str.ensures.value) ∙ sym c.in_ok-same_name.ensures ∙ w.if-branch.true))
      | else-branch w ↦
          rw w.said-is
          (choice_passed (same_name text) names c.loop-number.number said all c.loop-number.invariant (omega arith)
          (ap (same_name text) (sym c.name_at-name.ensures) ∙ ap (λ (t : List ℕ). same_name t c.name_at-name.result.now) (sym c.as_str.ensures.value) ∙ sym c.in_ok-same_name.ensures ∙ w.if-branch.false))
    ]
