use Rattle.std.proofs.Common.{◌≡◌, ◌∷◌, [], ◌++◌, Some, None, IfOk, List, rules}
use Rattle.hearing_slots.specs.declared.day_notes.NotedDay.{NotedDay}
use Rattle.hearing_slots.proofs.DayNoteLemmas.{forgotten, made, note_in, note_out}
use Rattle.hearing_slots.proofs.day_notes.Shard.noting.Goals as goal

pub returns-in-None : goal.returns-in-None
returns-in-None c =
    let old : List NotedDay = c.args.self.now in
    let value : IfOk c.of.result (λ (shard : List NotedDay). shard ≡ forgotten c.args.case c.args.motion old) = search rules in
    rw c.in-None.is (made c.of.result old (forgotten c.args.case c.args.motion old) c.args.case c.args.motion None value (note_out c.args.case c.args.motion old))

pub returns-in_ok-push-in-Some : goal.returns-in_ok-push-in-Some
returns-in_ok-push-in-Some c =
    let old : List NotedDay = c.args.self.now in
    let n : NotedDay = record { case = c.args.case; motion = c.args.motion; day = c.in-Some.day } in
    let value : IfOk c.of-in-Some.result (λ (shard : List NotedDay). shard ≡ forgotten c.args.case c.args.motion old ++ n ∷ []) = search rules in
    rw c.in-Some.is (made c.of-in-Some.result old (forgotten c.args.case c.args.motion old ++ n ∷ []) c.args.case c.args.motion (Some c.in-Some.day) value (note_in n old))
