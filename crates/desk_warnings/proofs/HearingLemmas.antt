-- The lines of the hearings on a day, judge by judge.
use Rattle.std.proofs.Common.{◌≡◌, ℕ, ℤ, ◌+◌, ◌-◌, ◌<◌, List, ◌++◌, refl, ap}
use Rattle.std.specs.List.{flat_map, range_with_len}
use Rattle.case_numbers.specs.declared.names.NamedCase.{NamedCase}
use Rattle.docket_rows.specs.Words.{Parts}
use Rattle.office_texts.proofs.RunLemmas.CallerLemmas.{range_more}
use Rattle.court_days.specs.Words.{CourtView}
use Rattle.desk_numbers.specs.declared.moved.Moved.{Moved}
use Rattle.desk_warnings.specs.Warnings.{hearings_of}

-- those of `count` judges from the first on
abbrev pub hearings_from : CourtView → List Moved → List NamedCase → Parts → (day : ℤ) → (first count : ℕ) → List ℕ
hearings_from court moved named parts day first count = flat_map (hearings_of court moved named parts day) (range_with_len first count)

pub hearings_more : (court : CourtView) (moved : List Moved) (named : List NamedCase) (parts : Parts) (day : ℤ) (first last : ℕ) → first < last
    → hearings_from court moved named parts day first (last - first) ≡ hearings_of court moved named parts day first ++ hearings_from court moved named parts day (first + 1) (last - (first + 1))
hearings_more court moved named parts day first last before =
    ap (flat_map (hearings_of court moved named parts day)) (range_more first last (last - first) before refl)
