use Rattle.std.proofs.Common.{ap, ◌∙◌}
use Rattle.versioned_steps.specs.Reads.{first_stale}
use Rattle.versioned_steps.specs.Drafts.{with_notes}
use Rattle.versioned_steps.specs.Stores.{stored_of}
use Rattle.versioned_steps.proofs.StoreLemmas.{check_first, check_some, check_none}
use Rattle.versioned_steps.proofs.store.Store.check.Goals as goal

pub returns-clause-first : goal.returns-clause-first
returns-clause-first g c = λ h replays.
    let r = g.P.Parted.rules c.args.self.now.owner in
    c.first_stale.ensures
    ∙ ap (λ copies. first_stale (λ (part : g.row.P-Part.Denot). (stored_of r c.args.self.now part).version) (with_notes copies c.notes.result.now)) c.copies.ensures
    ∙ ap (first_stale (λ (part : g.row.P-Part.Denot). (stored_of r c.args.self.now part).version)) c.notes.ensures.reads
    ∙ check_first r h c.args.self.now c.args.draft.now.reads replays

pub returns-clause-stale : goal.returns-clause-stale
returns-clause-stale g c = λ h replays. check_some (g.P.Parted.rules c.args.self.now.owner) h c.args.draft.now.reads _ (returns-clause-first g c h replays)

pub returns-clause-fresh : goal.returns-clause-fresh
returns-clause-fresh g c = λ h replays. check_none (g.P.Parted.rules c.args.self.now.owner) h c.args.draft.now.reads _ (returns-clause-first g c h replays)
