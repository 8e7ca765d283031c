use Rattle.std.proofs.Common.{◌≡◌, ℕ, List, subst, sym}
use Rattle.clerk_workers.specs.declared.answer.SharedReply.{SharedReply}
use Rattle.clerk_workers.specs.Inside.Merged.{AreAsMany, AreMerged}
use Rattle.clerk_workers.specs.Rows.{AreOfClerks}
use Rattle.clerk_workers.proofs.NotedLemmas.{are_noted, held_items, noted_long}
use Rattle.clerk_workers.proofs.run.run_clerks.Goals as goal

pub merge-requires-clause-clerks : goal.merge-requires-clause-clerks
merge-requires-clause-clerks g c =
    let P : ℕ → Type 0 = λ n. AreOfClerks n c.args.rows.now in
    let long = noted_long (λ n answers. n.items ≡ answers) g.L.NamesOffice.setup c.args.rows.now c.args.seats.items c.in-Ok-run_noting.noted.notes.items c.in-Ok-run_noting.noted.tallies.items c.in-Ok-run_noting.ensures in
    subst P (sym long) c.requires.clerks

pub merge-requires-clause-as_many : goal.merge-requires-clause-as_many
merge-requires-clause-as_many g c =
    let noted = are_noted (λ n answers. n.items ≡ answers) g.L.NamesOffice.setup c.args.rows.now c.args.seats.items c.in-Ok-run_noting.noted.notes.items c.in-Ok-run_noting.noted.tallies.items c.in-Ok-run_noting.ensures c.requires.in_order in
    let same = held_items (λ n. n.items) c.in-Ok-run_noting.noted.notes.items noted.lists noted.held in
    let P : List (List SharedReply) → Type 0 = λ ls. AreAsMany c.args.rows.now ls in
    subst P (sym same) noted.as_many

pub returns-in-Ok-run_noting : goal.returns-in-Ok-run_noting
returns-in-Ok-run_noting g c =
    let noted = are_noted (λ n answers. n.items ≡ answers) g.L.NamesOffice.setup c.args.rows.now c.args.seats.items c.in-Ok-run_noting.noted.notes.items c.in-Ok-run_noting.noted.tallies.items c.in-Ok-run_noting.ensures c.requires.in_order in
    let same = held_items (λ n. n.items) c.in-Ok-run_noting.noted.notes.items noted.lists noted.held in
    let answers = c.merge.new.answers.items in
    let P : List (List SharedReply) → Type 0 = λ ls. AreMerged c.args.rows.now ls answers in
    record { as_many = c.merge.ensures.as_many; worked = noted.worked answers (subst P same c.merge.ensures.merged) }
