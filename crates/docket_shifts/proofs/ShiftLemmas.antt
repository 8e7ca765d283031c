-- The lines of cases, one after another.
use Rattle.std.proofs.Common.{◌≡◌, ◌+◌, ◌-◌, ◌<◌, ◌++◌, ℕ, ap, refl}
use Rattle.std.specs.List.{flat_map}
use Rattle.office_texts.proofs.RunLemmas.CallerLemmas.{range_more}
use Rattle.docket_shifts.specs.Compared.{ShownRows}
use Rattle.docket_shifts.specs.Shifts.{case_shifts, shifts_from}

-- the lines of some cases are those of the first and of the others
pub shifts_more : (before after : ShownRows) (first last : ℕ) → first < last
    → shifts_from before after first (last - first) ≡ case_shifts before after first ++ shifts_from before after (first + 1) (last - (first + 1))
unfolding shifts_from
shifts_more before after first last less = ap (flat_map (case_shifts before after)) (range_more first last (last - first) less refl)
