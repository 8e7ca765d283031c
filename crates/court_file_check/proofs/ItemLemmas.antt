-- The faults of the items of a list, item by item.
use Rattle.std.proofs.Common.{◌≡◌, ℕ, ◌+◌, ◌<◌, ◌≤◌, List, [], ◌++◌, ℤ, Option, Some, option_map, option_to_list, length, drop, get_or, refl, sym, ◌∙◌, add-one, append_assoc, append-nil}
use Rattle.std.proofs.lemmas.List.{drop_all}
use Rattle.toml.specs.Data.{Members}
use Rattle.toml.specs.declared.value.Value.{Value}
use Rattle.toml.specs.View.{view, items_view}
use Rattle.toml.proofs.Views.{items_view-drop}
use Rattle.court_file_text.specs.declared.key.Key.{Key}
use Rattle.court_file_text.specs.declared.key.Key.TheVariants as key
use Rattle.court_file_text.specs.Words.{date_of_item, and_desk_name}
use Rattle.court_days.specs.Words.{DaysView}
use Rattle.court_file_check.specs.declared.warnings.slips.Slip.{Slip}
use Rattle.court_file_check.specs.Warnings.{day_of_data, later, slip_of, slips_from}
use Rattle.court_file_check.specs.Seen.{FaultView}
use Rattle.court_file_check.specs.Faults.{faulty, each_date, and_good, each_name, zone_faults, hours_faults, span_faults, dates_faults, names_faults, efiling_faults, office_faults_in, faults_in}

pub date_goes_on : (k : Key) (so_far more whole : List FaultView) (values : List Value) (i : ℕ) (value : Value)
    → i < length values → value ≡ get_or values i value → more ≡ so_far ++ faulty k (Some i) (date_of_item k (view value))
    → so_far ++ each_date k i (items_view (drop i values)) ≡ whole → more ++ each_date k (i + 1) (items_view (drop (i + 1) values)) ≡ whole
unfolding each_date
date_goes_on k so_far more whole values i value below is added same =
    let step : so_far ++ each_date k i (items_view (drop i values)) ≡ so_far ++ (faulty k (Some i) (date_of_item k (view value)) ++ each_date k (i + 1) (items_view (drop (i + 1) values))) =
    rw (items_view-drop values i value below, ← is, add-one) refl in
    rw (added, append_assoc) (sym step ∙ same)

pub dates_done : (k : Key) (so_far whole : List FaultView) (values : List Value) (i : ℕ)
    → length values ≤ i → so_far ++ each_date k i (items_view (drop i values)) ≡ whole → so_far ≡ whole
unfolding each_date
dates_done k so_far whole values i past same = sym (append-nil so_far) ∙ (rw (drop_all i values past) at same)

pub name_goes_on : (k : Key) (so_far more whole : List FaultView) (names known : List (List ℕ)) (values : List Value) (i : ℕ) (value : Value)
    → i < length values → value ≡ get_or values i value → more ≡ so_far ++ faulty k (Some i) (and_desk_name k names (view value))
    → known ≡ and_good names (and_desk_name k names (view value))
    → so_far ++ each_name k i names (items_view (drop i values)) ≡ whole → more ++ each_name k (i + 1) known (items_view (drop (i + 1) values)) ≡ whole
unfolding each_name
name_goes_on k so_far more whole names known values i value below is added knows same =
    let step : so_far ++ each_name k i names (items_view (drop i values)) ≡ so_far ++ (faulty k (Some i) (and_desk_name k names (view value)) ++ each_name k (i + 1) known (items_view (drop (i + 1) values))) =
    rw (items_view-drop values i value below, ← is, add-one, knows) refl in
    rw (added, append_assoc) (sym step ∙ same)

pub names_done : (k : Key) (so_far whole : List FaultView) (names : List (List ℕ)) (values : List Value) (i : ℕ)
    → length values ≤ i → so_far ++ each_name k i names (items_view (drop i values)) ≡ whole → so_far ≡ whole
unfolding each_name
names_done k so_far whole names values i past same = sym (append-nil so_far) ∙ (rw (drop_all i values past) at same)

-- the faults of each part, one after the other
pub all_parts : (file : Members) (none a b c d e f g h : List FaultView) → none ≡ [] → a ≡ none ++ zone_faults file → b ≡ a ++ hours_faults file → c ≡ b ++ span_faults file
    → d ≡ c ++ dates_faults key.Federal file → e ≡ d ++ dates_faults key.State file → f ≡ e ++ names_faults key.Judges file → g ≡ f ++ names_faults key.Rooms file → h ≡ g ++ efiling_faults file → h ≡ faults_in file
unfolding faults_in office_faults_in
all_parts file none a b c d e f g h is0 is1 is2 is3 is4 is5 is6 is7 is8 = rw (is8, is7, is6, is5, is4, is3, is2, is1, is0) (simp append_assoc)

-- the slips of one item more
pub slip_goes_on : (c : DaysView) (so_far more whole : List (ℕ × Slip)) (before next : Option ℤ) (values : List Value) (i : ℕ) (value : Value) (day : Option ℤ) (told : Option Slip)
    → i < length values → value ≡ get_or values i value → day ≡ day_of_data (view value) → told ≡ slip_of c before day
    → more ≡ so_far ++ option_to_list (option_map (λ slip. (i, slip)) told)
    → next ≡ later c before day
    → so_far ++ slips_from c i before (items_view (drop i values)) ≡ whole → more ++ slips_from c (i + 1) next (items_view (drop (i + 1) values)) ≡ whole
unfolding slips_from
slip_goes_on c so_far more whole before next values i value day told below is is_day is_told added is_next same =
    let step : so_far ++ slips_from c i before (items_view (drop i values)) ≡ so_far ++ (option_to_list (option_map (λ slip. (i, slip)) (slip_of c before day)) ++ slips_from c (i + 1) next (items_view (drop (i + 1) values))) =
    rw (items_view-drop values i value below, ← is, add-one, is_next, is_day) refl in
    rw (added, is_told, append_assoc) (sym step ∙ same)

pub slips_done : (c : DaysView) (so_far whole : List (ℕ × Slip)) (before : Option ℤ) (values : List Value) (i : ℕ)
    → length values ≤ i → so_far ++ slips_from c i before (items_view (drop i values)) ≡ whole → so_far ≡ whole
unfolding slips_from
slips_done c so_far whole before values i past same = sym (append-nil so_far) ∙ (rw (drop_all i values past) at same)
