use Rattle.std.proofs.Common.{◌+◌, refl}
use Rattle.desk_entries.specs.declared.what_stands.Walk.{Walk}
use Rattle.desk_entries.proofs.WalkLemmas.{walked_row}
use Rattle.desk_entries.proofs.what_stands.Walk.pass.Goals as goal

pub returns : goal.returns
returns c = λ before is none.
    let after : Walk = record c.args.self.now { rows = c.args.self.now.rows + 1 } in
    walked_row c.args.self.now after before c.args.entry.now is none refl refl refl refl
