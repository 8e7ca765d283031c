-- Reading lists item by item.
use Rattle.std.proofs.Common.{◌≡◌, ℕ, suc, ◌+◌, ◌<◌, ◌≤◌, List, [], ◌∷◌, length, drop, get_or, Some, None, Result, Ok, inl, inr, refl, sym, ap, ◌∙◌}
use Rattle.std.specs.Str.{IsUtf8, is_utf8}
use Rattle.std.proofs.lemmas.Str.{is_utf8-from_IsUtf8, IsUtf8-from_is_utf8}
use Rattle.std.proofs.lemmas.Bool.{cases_Bool}
use Rattle.std.proofs.lemmas.List.{drop_all}
use Rattle.toml.specs.Data.{Data, Members}
use Rattle.toml.specs.Parse.{parse_document}
use Rattle.toml.specs.declared.value.Value.{Value}
use Rattle.toml.specs.View.{view, items_view}
use Rattle.toml.proofs.Views.{items_view-drop}
use Rattle.court_file_text.specs.declared.fault.CourtFault.{CourtFault}
use Rattle.court_file_text.specs.declared.fault.CourtFault.TheVariants.{NotToml, Missing, WrongKind, BadDate, BadZone, BadHours, BadSpan, BadName, TwiceNamed, TooMany, OutOfMemory}
use Rattle.court_file_text.specs.Reading.{toml_of}
use Rattle.court_file_text.specs.Reading.{◌>>=◌, Fails, item_count, each_item}

-- a list has as many items as its values
pub counts : (values : List Value) → item_count (items_view values) ≡ length values
counts [] = refl
counts (v ∷ values) = ap suc (counts values)

-- a fault of the first step is that of the whole
fails_first : {A B : Type 0} (e : CourtFault) (read : Result A CourtFault) (next : A → Result B CourtFault) → Fails e read → Fails e (read >>= next)
fails_first OutOfMemory read next fault = tt
fails_first NotToml read next fault = rw fault refl
fails_first (Missing k) read next fault = rw fault refl
fails_first (WrongKind k) read next fault = rw fault refl
fails_first (BadDate t) read next fault = rw fault refl
fails_first BadZone read next fault = rw fault refl
fails_first BadHours read next fault = rw fault refl
fails_first BadSpan read next fault = rw fault refl
fails_first (BadName t) read next fault = rw fault refl
fails_first (TwiceNamed t) read next fault = rw fault refl
fails_first (TooMany k) read next fault = rw fault refl

module _ {A : Type 0} where
  -- one more item is read
  one_more : (add : A → Data → Result A CourtFault) (so_far : A) (values : List Value) (i : ℕ) (value : Value)
      → i < length values → value ≡ get_or values i value
      → each_item add so_far (items_view (drop i values)) ≡ (add so_far (view value) >>= λ more. each_item add more (items_view (drop (i + 1) values)))
  unfolding each_item
  one_more add so_far values i value below is = rw (items_view-drop values i value below, ← is) refl

  pub goes_on : (add : A → Data → Result A CourtFault) (so_far more : A) (values : List Value) (i : ℕ) (value : Value) (total : Result A CourtFault)
      → i < length values → value ≡ get_or values i value → add so_far (view value) ≡ Ok more
      → each_item add so_far (items_view (drop i values)) ≡ total → each_item add more (items_view (drop (i + 1) values)) ≡ total
  goes_on add so_far more values i value total below is added same =
      let step = one_more add so_far values i value below is in
      sym (step ∙ rw added refl) ∙ same

  pub fails : (e : CourtFault) (add : A → Data → Result A CourtFault) (so_far : A) (values : List Value) (i : ℕ) (value : Value) (total : Result A CourtFault)
      → i < length values → value ≡ get_or values i value → Fails e (add so_far (view value))
      → each_item add so_far (items_view (drop i values)) ≡ total → Fails e total
  fails e add so_far values i value total below is fault same =
      rw (← same, one_more add so_far values i value below is) (fails_first e (add so_far (view value)) _ fault)

  pub is_done : (add : A → Data → Result A CourtFault) (so_far : A) (values : List Value) (i : ℕ) (total : Result A CourtFault)
      → length values ≤ i → each_item add so_far (items_view (drop i values)) ≡ total → total ≡ Ok so_far
  unfolding each_item
  is_done add so_far values i total past same = sym (rw (drop_all i values past) at same)

-- the document of bytes that are UTF-8, and none of others
pub toml_of-text : (bytes : List ℕ) (file : Members) → IsUtf8 bytes → parse_document bytes ≡ Some file → toml_of bytes ≡ Some file
toml_of-text bytes file utf8 parsed = rw (is_utf8-from_IsUtf8 bytes utf8) parsed

pub toml_of-none : (bytes : List ℕ) → (IsUtf8 bytes → parse_document bytes ≡ None) → toml_of bytes ≡ None
toml_of-none bytes refused = elim (cases_Bool (is_utf8 bytes)) [
  | inl utf8 ↦ rw utf8 (refused (IsUtf8-from_is_utf8 bytes utf8))
  | inr other ↦ rw other refl
]
