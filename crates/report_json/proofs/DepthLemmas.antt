-- How deep values nest.
use Rattle.std.proofs.Common.{◌≤◌, ◌+◌, ◌/◌, ◌%◌, ◌*◌, ◌+ℤ◌, pos, ℕ, ℤ, Bool, true, false, List, [], ◌∷◌, ◌++◌, Option, Some, None, map, if◌then◌else◌, arith}
use Rattle.json.specs.Json.{Json, null}
use Rattle.json.specs.Tree.{depth, items_depth, members_depth}
use Rattle.json.specs.Value.{items_of}
use Rattle.jiff_tz.specs.declared.timezone.TimeZone.{TimeZone}
use Rattle.court_clock.specs.Words.{civil_of, is_day_number}
use Rattle.report_json.specs.Cases.{name_fields}
use Rattle.report_json.specs.Times.{happened_fields, instant_value, moment_value, slot_value, span_fields}
use Rattle.report_json.specs.Values.{Field, array_of, members, object_of, or_null}

-- the value of each field nests no deeper
abbrev pub FieldsWithin : ℕ → List Field → Type 0
FieldsWithin n [] = Unit {0}
FieldsWithin n (f ∷ fs) = (depth f.value ≤ n) × FieldsWithin n fs

-- each value nests no deeper
abbrev pub AllWithin : ℕ → List Json → Type 0
AllWithin n [] = Unit {0}
AllWithin n (j ∷ js) = (depth j ≤ n) × AllWithin n js

pub nullable : {A : Type 0} (f : A → Json) (n : ℕ) → ((x : A) → depth (f x) ≤ n) → (o : Option A) → depth (or_null f o) ≤ n
nullable f n each (Some x) = each x
nullable f n each None = omega arith

pub either_within : (b : Bool) (x y : Json) (n : ℕ) → depth x ≤ n → depth y ≤ n → depth (if b then x else y) ≤ n
either_within true x y n hx hy = hx
either_within false x y n hx hy = hy

members_within : (n : ℕ) (fs : List Field) → FieldsWithin n fs → members_depth (members fs) ≤ n
members_within n [] h = omega arith
members_within n (f ∷ fs) h = let first = h.0 in let rest = members_within n fs h.1 in omega arith

pub object_within : (n : ℕ) (fs : List Field) → FieldsWithin n fs → depth (object_of fs) ≤ n + 1
object_within n fs h = let inner = members_within n fs h in omega arith

values_within : (n : ℕ) (js : List Json) → AllWithin n js → items_depth (items_of js) ≤ n
values_within n [] h = omega arith
values_within n (j ∷ js) h = let first = h.0 in let rest = values_within n js h.1 in omega arith

-- an array of values that nest no deeper
pub list_within : (n : ℕ) (js : List Json) → AllWithin n js → depth (array_of js) ≤ n + 1
list_within n js h = let inner = values_within n js h in omega arith

pub all_within : {A : Type 0} (f : A → Json) (n : ℕ) → ((x : A) → depth (f x) ≤ n) → (xs : List A) → AllWithin n (map f xs)
all_within f n each [] = tt
all_within f n each (x ∷ xs) = (each x, all_within f n each xs)

pub array_within : {A : Type 0} (f : A → Json) (n : ℕ) → ((x : A) → depth (f x) ≤ n) → (xs : List A) → depth (array_of (map f xs)) ≤ n + 1
array_within f n each xs = list_within n (map f xs) (all_within f n each xs)

pub append_within : (n : ℕ) (fs gs : List Field) → FieldsWithin n fs → FieldsWithin n gs → FieldsWithin n (fs ++ gs)
append_within n [] gs h k = k
append_within n (f ∷ fs) gs h k = (h.0, append_within n fs gs h.1 k)

pub deeper_within : (m n : ℕ) (fs : List Field) → m ≤ n → FieldsWithin m fs → FieldsWithin n fs
deeper_within m n [] more h = tt
deeper_within m n (f ∷ fs) more h = (let first = h.0 in omega arith, deeper_within m n fs more h.1)

pub instant_within : (zone : TimeZone) (t : ℤ) → depth (instant_value zone t) ≤ 0
unfolding instant_value
instant_within zone t = nullable _ 0 (λ _. omega arith) (civil_of zone t)

pub slot_within : (zone : TimeZone) (day : ℤ) (slot : ℕ) → depth (slot_value zone day slot) ≤ 0
unfolding slot_value
slot_within zone day slot =
    either_within (is_day_number (day +ℤ pos (slot / 96))) (moment_value zone (day +ℤ pos (slot / 96)) (900 * (slot % 96))) null 0 (instant_within zone _) (omega arith)

pub happened_within : (zone : TimeZone) (day : ℤ) (minute : ℕ) → FieldsWithin 0 (happened_fields zone day minute)
happened_within zone day minute = (omega arith, (omega arith, (instant_within zone _, tt)))

pub span_within : (zone : TimeZone) (day : ℤ) (first count : ℕ) → FieldsWithin 0 (span_fields zone day first count)
unfolding span_fields
span_within zone day first count = (omega arith, (omega arith, (omega arith, (slot_within zone day first, (slot_within zone day (first + count), tt)))))

pub name_within : (n : ℕ) (name : Option (List ℕ)) → FieldsWithin n (name_fields name)
name_within n (Some name) = (omega arith, tt)
name_within n None = tt
