-- The stamps of what a session keeps, led from one batch to the next.
use Rattle.std.proofs.Common.{◌≡◌, ℕ, List, subst}
use Rattle.desk_journal.specs.Words.{AddsStamps, StampView}
use Rattle.desk_journal.proofs.CallerLemmas.{added_more, none_added}
use Rattle.desk_session.specs.Stamped.{IsStampedOn}

-- nothing is added
pub stamped_none : (account : List ℕ) (Has : List StampView → Type 0) (stamps : List StampView) → Has stamps → IsStampedOn account Has stamps
stamped_none account Has stamps has = (stamps, none_added account stamps, has)

-- something is added, and then more by a call that has the same account
pub stamped_more : (account after : List ℕ) (Has Then : List StampView → Type 0) (before : List StampView) → after ≡ account → IsStampedOn account Has before
    → ((between : List StampView) → Has between → IsStampedOn after Then between) → IsStampedOn account Then before
stamped_more account after Has Then before same first more =
    let (between, one, has) = first in
    let (last, two, now) = more between has in
    (last, added_more account before between last one (subst (λ (l : List ℕ). AddsStamps l between last) same two), now)
