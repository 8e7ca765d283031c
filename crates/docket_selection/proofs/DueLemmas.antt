-- Lists that are made item by item.
use Rattle.std.proofs.Common.{◌≡◌, ◌+◌, ◌<◌, ◌≤◌, ◌-◌, ◌∙◌, ℕ, suc, Bool, true, false, ◌&&◌, ◌||◌, not, if◌then◌else◌, List, [], ◌∷◌, ◌++◌, length, get_or, drop, map, filter_map, option_map, option_to_list, Option, Some, None, append_assoc, refl, sym, ap, arith}
use Rattle.std.specs.List.{cons_option, flat_map, range_with_len}
use Rattle.std.proofs.lemmas.List.{append-nil, at_drop_more}
use Rattle.rule6.specs.declared.timeliness.Shown.{Shown}
use Rattle.court_clock.specs.Words.{ClockView}
use Rattle.docket_selection.specs.declared.choice.Choice.{Choice}
use Rattle.docket_selection.specs.declared.item.DueItem.{DueItem}
use Rattle.docket_selection.specs.declared.item.Matter.{Matter}
use Rattle.docket_selection.specs.declared.item.Matter.TheVariants.{Deadline, Hearing}
use Rattle.docket_selection.specs.Choice.{is_case_chosen}
use Rattle.docket_selection.specs.Due.{due_by_either, is_due_any_day, is_matter_chosen}
use Rattle.docket_selection.specs.Items.{is_ended, is_met, matter_with_other, with_other}

-- nothing more
pub nothing_more : {X : Type 0} (xs : List X) → xs ++ [] ≡ xs
nothing_more xs = append-nil xs

-- what the first of some items gives, and then the others
pub first_of_rest : {X Y : Type 0} (f : X → Option Y) (xs : List X) (i : ℕ) (x : X) → i < length xs → x ≡ get_or xs i x → filter_map f (drop i xs) ≡ option_to_list (f x) ++ filter_map f (drop (i + 1) xs)
first_of_rest f xs i x within is =
    at_drop_more (filter_map f) xs i x within ∙ ap (λ y. filter_map f (y ∷ drop (i + 1) xs)) (sym is) ∙ one (f x) (filter_map f (drop (i + 1) xs))
  where
    one : {Y : Type 0} (o : Option Y) (rest : List Y) → cons_option o rest ≡ option_to_list o ++ rest
    one None rest = refl
    one (Some y) rest = refl

-- what one item more gives was added
pub one_more : {X Y : Type 0} (f : X → Option Y) (xs : List X) (i : ℕ) (x : X) (o : Option Y) (old new whole : List Y) → i < length xs → x ≡ get_or xs i x → o ≡ f x → new ≡ old ++ option_to_list o → old ++ filter_map f (drop i xs) ≡ whole → new ++ filter_map f (drop (i + 1) xs) ≡ whole
one_more f xs i x o old new whole within is gives added all =
    ap (λ ys. ys ++ filter_map f (drop (i + 1) xs)) (added ∙ ap (λ p. old ++ option_to_list p) gives)
    ∙ append_assoc old (option_to_list (f x)) (filter_map f (drop (i + 1) xs))
    ∙ ap (λ ys. old ++ ys) (sym (first_of_rest f xs i x within is))
    ∙ all

-- some numbers in a row are the first and those that follow
pub range_more : (first last : ℕ) → first < last → range_with_len first (last - first) ≡ first ∷ range_with_len (first + 1) (last - (first + 1))
range_more first last before =
    let left : last - first ≡ suc (last - (first + 1)) = omega arith in
    rw left refl

-- what one number more gives was added
pub one_number_more : {Y : Type 0} (f : ℕ → List Y) (first last : ℕ) (old new whole : List Y) → first < last → new ≡ old ++ f first → old ++ flat_map f (range_with_len first (last - first)) ≡ whole → new ++ flat_map f (range_with_len (first + 1) (last - (first + 1))) ≡ whole
one_number_more f first last old new whole before added all =
    let rest = flat_map f (range_with_len (first + 1) (last - (first + 1))) in
    ap (λ t. t ++ rest) added
    ∙ append_assoc old (f first) rest
    ∙ ap (λ r. old ++ flat_map f r) (sym (range_more first last before))
    ∙ all

-- no number is left
pub no_number_more : {Y : Type 0} (f : ℕ → List Y) (first last : ℕ) (old whole : List Y) → last ≤ first → old ++ flat_map f (range_with_len first (last - first)) ≡ whole → old ≡ whole
no_number_more f first last old whole past all =
    let none : last - first ≡ 0 = omega arith in
    sym (append-nil old) ∙ rw none at all

-- one item more was added
pub one_item_more : {X Y : Type 0} (f : X → Y) (xs : List X) (i : ℕ) (x : X) (y : Y) (old new whole : List Y) → i < length xs → x ≡ get_or xs i x → y ≡ f x → new ≡ old ++ y ∷ [] → old ++ map f (drop i xs) ≡ whole → new ++ map f (drop (i + 1) xs) ≡ whole
one_item_more f xs i x y old new whole within is gives added all =
    ap (λ ys. ys ++ map f (drop (i + 1) xs)) (added ∙ ap (λ z. old ++ z ∷ []) gives)
    ∙ append_assoc old (f x ∷ []) (map f (drop (i + 1) xs))
    ∙ ap (λ z. old ++ (f z ∷ map f (drop (i + 1) xs))) is
    ∙ ap (λ ys. old ++ ys) (sym (at_drop_more (map f) xs i x within))
    ∙ all

-- the end by another reading changes nothing of whether an item is chosen whatever its day
chosen_apart : (choice : Choice) (before : Bool) (case : ℕ) (other : Option Shown) (m : Matter) → (is_case_chosen choice case && (choice.met || not (is_met (matter_with_other other m) || is_ended (matter_with_other other m))) && is_matter_chosen choice before (matter_with_other other m)) ≡ (is_case_chosen choice case && (choice.met || not (is_met m || is_ended m)) && is_matter_chosen choice before m)
chosen_apart choice before case other (Deadline d) = refl
chosen_apart choice before case other (Hearing h) = refl

-- what fails last fails
fails_last : (a b : Bool) → b ≡ false → (a && b) ≡ false
fails_last false b fails = refl
fails_last true b fails = fails

-- an item that isn't due is left out
none_if : (due : Bool) (item : DueItem) → due ≡ false → None ≡ (if due then Some item else None)
none_if due item fails = rw fails refl

-- an item that isn't chosen whatever its day isn't due by another reading either
pub not_due_by_either : (clock : ClockView) (choice : Choice) (before : Bool) (other : Option Shown) (found : Option DueItem) (item : DueItem) → found ≡ Some item → is_due_any_day choice before item ≡ false → None ≡ due_by_either clock choice before (option_map (with_other other) found)
not_due_by_either clock choice before other found item is fails =
    rw is (none_if _ _ (fails_last _ _ (chosen_apart choice before item.case other item.matter ∙ fails)))
