use Rattle.std.proofs.Common.{subst, sym, ap, ◌∙◌, ◌≡◌, ◌++◌, ◌∷◌, []}
use Rattle.versioned_steps.specs.History.{writes_on, value_of}
use Rattle.versioned_steps.specs.Stores.{Replays}
use Rattle.versioned_steps.proofs.ReadLemmas.{staged_writes}
use Rattle.versioned_steps.proofs.store.Store.apply.Goals as goal

pub returns-clause-finished : goal.returns-clause-finished
returns-clause-finished g c = λ h e replays ready command.
    let r = g.P.Parted.rules c.args.self.now.owner in
    let laws = g.met.P.Parted.lawful c.args.self.now.owner in
    let F : g.row.P.Denot → Type 0 = λ owner.
    Replays (g.P.Parted.rules owner) h c.stage.new.self → c.in_ok-change.change.writes ≡ writes_on (g.P.Parted.rules owner) (value_of (g.P.Parted.rules owner) h) e.command
    → Replays (g.P.Parted.rules owner) (h ++ e ∷ []) c.finish.new.self in
    subst F c.stage.ensures.owner (c.finish.ensures.put h e) (c.stage.ensures.kept h replays)
    (staged_writes r laws h c.args.draft.now ready c.in_ok-change.change.writes c.in_ok-change.ensures.writes ∙ ap (writes_on r (value_of r h)) (sym command))
