use Rattle.std.proofs.Common.{◌∙◌, ◌++◌, ℕ, List, ap}
use Rattle.std.specs.Prelude.{codes}
use Rattle.desk_program.proofs.TextLemmas.{three_more}
use Rattle.desk_program.proofs.changed_text.push_answer.Goals as goal

pub returns : goal.returns
returns c =
    three_more c.args.text.now.items (codes "and would be answered\n") c.args.answer.now c.args.mark.now
    c.extend_from_slice.new.self.items c.extend_from_slice-2.new.self.items c.extend_from_slice-3.new.self.items
    c.in_ok-extend_from_slice.ensures.items
    c.in_ok-extend_from_slice-2.ensures.items
    (c.in_ok-extend_from_slice-3.ensures.items ∙ ap (λ (l : List ℕ). c.extend_from_slice-2.new.self.items ++ l) c.as_bytes.ensures.value)
