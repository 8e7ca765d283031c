use Rattle.std.proofs.Common.{◌≡◌, Some, ◌∙◌, rules}
use Rattle.versioned_steps.specs.Drafts.{IsDraftOf}
use Rattle.versioned_steps.specs.Reads.{copies_of}
use Rattle.versioned_steps.proofs.ReadLemmas.{draft_add}
use Rattle.versioned_steps.proofs.moves.read.Goals as goal

pub returns-in-Ok-add-clause-reads : goal.returns-in-Ok-add-clause-reads
returns-in-Ok-add-clause-reads g c = λ h replays was.
    let r = g.P.Parted.rules c.args.store.now.owner in
    let before : IsDraftOf r h c.in-Some.draft = rw c.in-Some.is at was in
    let next : r.next_part c.in-Some.draft.command (copies_of c.in-Some.draft.reads) ≡ Some c.in-Some-next.part = search rules in
    rw c.in-Ok-add.ensures.ok
    (draft_add r h c.in-Some.draft c.in-Some-next.part c.in-Ok.value c.in-Ok.version c.length.result (c.length.ensures ∙ replays.length) (c.in-Ok.ensures.version h replays) (c.in-Ok.ensures.value h replays) next before)
