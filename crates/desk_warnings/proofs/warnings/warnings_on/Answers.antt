use Rattle.std.proofs.Common.{◌∙◌, ◌++◌, ℕ, List, ap}
use Rattle.docket_rows.specs.Words.{parts_of}
use Rattle.docket_core.specs.Words.{parts_held}
use Rattle.desk_warnings.specs.Warnings.{warnings_on}
use Rattle.desk_warnings.proofs.WarningLemmas.{warned_on}
use Rattle.desk_warnings.proofs.warnings.warnings_on.Goals as goal

pub returns : goal.returns
returns c = λ docketed holds.
    c.in_ok-push_warnings_on.ensures holds.setup_is
    ∙ ap (λ (t : List ℕ). t ++ warnings_on c.args.court.now c.args.moved.now c.args.cases.now.named (parts_held c.args.docket.now) c.args.held_back.now c.args.name.now c.args.work.now) c.new-text.ensures.bytes
    ∙ warned_on c.args.court.now c.args.moved.now c.args.cases.now.named (parts_held c.args.docket.now) (parts_of docketed) holds.stands c.args.held_back.now c.args.name.now c.args.work.now
