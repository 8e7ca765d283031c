-- The names of judges, one after another.
use Rattle.std.proofs.Common.{◌≡◌, ◌+◌, ◌-◌, ◌<◌, ◌++◌, ℕ, List, map, refl, ap}
use Rattle.std.specs.List.{flat_map}
use Rattle.json.specs.Tree.{json_tokens}
use Rattle.office_texts.proofs.RunLemmas.CallerLemmas.{range_more}
use Rattle.report_json.specs.Names.{name_value, names_from}

-- some names are the first and those that follow
pub names_more : (names : List (List ℕ)) (first last : ℕ) → first < last → flat_map json_tokens (names_from names first (last - first)) ≡ json_tokens (name_value names first) ++ flat_map json_tokens (names_from names (first + 1) (last - (first + 1)))
unfolding names_from
names_more names first last before = ap (λ range. flat_map json_tokens (map (name_value names) range)) (range_more first last (last - first) before refl)
