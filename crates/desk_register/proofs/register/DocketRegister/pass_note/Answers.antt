use Rattle.std.proofs.Common.{◌≡◌, ◌+◌, ◌<◌, refl, arith}
use Rattle.std.proofs.lemmas.Grind.{common_steps}
use Rattle.desk_register.specs.Entries.{most_entries}
use Rattle.desk_register.proofs.RegisterLemmas.{stands_past_note}
use Rattle.desk_register.proofs.register.DocketRegister.pass_note.Goals as goal

pub returns : goal.returns
returns c = λ under kept entry stands room some.
    let below : c.args.self.now.count < most_entries = omega (arith, stands.count, room) in
    let counted : c.saturating_add-self.result ≡ c.args.self.now.count + 1 = grind (arith, common_steps) in
    stands_past_note under c.args.self.now _ kept entry stands below some refl refl refl refl refl counted
