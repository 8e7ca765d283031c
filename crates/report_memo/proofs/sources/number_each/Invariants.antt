use Rattle.std.proofs.Common.{◌≡◌, map}
use Rattle.desk_numbers.proofs.CallerLemmas.{changed_up_to}
use Rattle.report_memo.specs.Sources.{numbered_source}
use Rattle.report_memo.proofs.sources.number_each.Given as goal

-- the first have their numbers, and the others are as they were
abbrev pub invariant-list : goal.invariant-list
invariant-list l = changed_up_to (numbered_source l.moved l.case) l.sources l.source-index ≡ map (numbered_source l.moved l.case) l.initial.sources
