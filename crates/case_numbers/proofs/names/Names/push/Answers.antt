use Rattle.std.proofs.Common.{◌∙◌, ℕ, List, Vec, ap, nat_eq}
use Rattle.std.specs.declared.alloc.Global.{Global}
use Rattle.std.specs.Str.{bytes_eq}
use Rattle.case_numbers.proofs.ApartLemmas.{apart_more}
use Rattle.case_numbers.proofs.LookupLemmas.{added_key, added_number}
use Rattle.indexmap.specs.IndexSet.{insert_key}
use Rattle.case_numbers.specs.declared.names.NamedCase.{NamedCase}
use Rattle.case_numbers.proofs.names.Names.push.Goals as goal

pub invariant_of-self-2 : goal.invariant_of-self-2
invariant_of-self-2 c =
    let case : NamedCase = record { number = c.args.number; name = c.args.name } in
    rw c.in_ok-push.ensures.items (
      added_number c.self.inside.cases.items c.self.inside.numbers.keys c.insert.new.self.keys case c.self.invariant.0 (rw c.self.view_is c.requires.number) (c.in_ok-insert.ensures.keys ∙ ap (λ (l : List ℕ). insert_key nat_eq l c.args.number) c.in_ok-reserve.ensures.keys),
      added_key c.self.inside.cases.items c.self.inside.keys.keys c.insert-2.new.self.keys c.in_ok-key.key case c.self.invariant.1 (c.in_ok-key.ensures.items ∙ c.key.ensures) (rw c.self.view_is c.requires.key) (c.in_ok-insert-2.ensures.keys ∙ ap (λ (l : List (Vec ℕ Global)). insert_key (λ (a b : Vec ℕ Global). bytes_eq a.items b.items) l c.in_ok-key.key) c.in_ok-reserve-2.ensures.keys),
      apart_more c.self.inside.cases.items case (rw c.self.view_is c.requires.number) (rw c.self.view_is c.requires.key) c.self.invariant.2,
    )
