use Rattle.std.proofs.Common.{◌≡◌, ◌++◌, drop, option_to_list}
use Rattle.std.specs.List.{flat_map}
use Rattle.docket_selection.specs.Changes.Words.{history_of}
use Rattle.report_ics.proofs.left.histories_each.Given as goal

-- those of the motions so far, and of the motions that are left, are all
abbrev pub invariant-loop-motion : goal.invariant-loop-motion
invariant-loop-motion l =
    l.list.items ++ flat_map (λ number. option_to_list (history_of l.histories.judge l.case number l.histories.changes)) (drop l.motion-index l.motions) ≡ flat_map (λ number. option_to_list (history_of l.histories.judge l.case number l.histories.changes)) l.motions
