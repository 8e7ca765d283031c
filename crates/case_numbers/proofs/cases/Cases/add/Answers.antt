use Rattle.std.proofs.Common.{◌∙◌, ℕ, List, ap, nat_eq}
use Rattle.indexmap.specs.IndexSet.{insert_key}
use Rattle.case_numbers.proofs.FreeLemmas.{opened_with}
use Rattle.case_numbers.proofs.cases.Cases.add.Goals as goal

pub free_from-self-inside-requires : goal.free_from-self-inside-requires
free_from-self-inside-requires c =
    opened_with c.self.inside.opened.keys c.insert.new.self.keys c.args.number c.self.inside.first c.self.invariant
    (c.in_ok-insert.ensures.keys ∙ ap (λ (l : List ℕ). insert_key nat_eq l c.args.number) c.in_ok-reserve.ensures.keys)
