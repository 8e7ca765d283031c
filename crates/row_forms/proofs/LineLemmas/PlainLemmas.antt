-- A line that no quote is in: what a cut of it says of the first record of its text.
use Rattle.std.proofs.Common.{◌≡◌, ◌∙◌, ◌==◌, ◌+◌, ◌-◌, ◌<◌, ◌≤◌, ℕ, suc, Bool, cond, List, [], ◌∷◌, ◌++◌, Some, None, inl, inr, true, false, not, length, drop, get_or, refl, sym, ap, arith, length-drop}
use Rattle.std.specs.Prelude.{◌||◌, ◌⊎◌}
use Rattle.std.specs.List.{slice_range}
use Rattle.std.proofs.lemmas.List.{drop_all, drop_more, get_or-drop, take_more}
use Rattle.std.proofs.lemmas.Option.{same_Some}
use Rattle.std.proofs.lemmas.Bool.{ne_eqb}
use Rattle.csv.specs.Machine.{after_end, next_record}
use Rattle.csv.specs.Reading.{default_config, records_from, records_next, strip_bom}
use Rattle.csv.specs.declared.parser.State.{State}
use Rattle.csv.specs.declared.parser.State.TheVariants as st
use Rattle.csv.proofs.RoundTrip.{record-same, start-same}
use Rattle.row_forms.specs.Inside.First.{BeginsWith}
use Rattle.row_forms.specs.Inside.Plain.{BeginsAtField, cut}

-- a text that doesn't begin with the first byte of a byte order mark has none
no_mark : (b : ℕ) (bytes : List ℕ) → (b == 239) ≡ false → strip_bom (b ∷ bytes) ≡ b ∷ bytes
unfolding strip_bom
no_mark b [] other = refl
no_mark b (c ∷ []) other = refl
no_mark b (c ∷ d ∷ bytes) other = rw other refl

untrue : (b : Bool) → not b ≡ true → b ≡ false
untrue true e = cc e
untrue false e = refl

pub begins_at_field : (bytes : List ℕ) → false ≡ (length bytes == 0) → (get_or bytes 0 0 ≡ 13 → ⊥) → (get_or bytes 0 0 ≡ 10 → ⊥) → not (get_or bytes 0 0 == 239) ≡ true → BeginsAtField bytes
begins_at_field [] some cr lf mark = cc some
begins_at_field (b ∷ bytes) some cr lf mark =
    ap (next_record default_config st.StartRecord [] []) (no_mark b bytes (untrue (b == 239) mark)) ∙ record-same [] [] b bytes (ne_eqb b 13 cr) (ne_eqb b 10 lf)

-- what the reader finds, in a field and at its start
record Finds (fields : List (List ℕ)) (field bytes : List ℕ) (all : List (List ℕ)) : Type 0 where
  within : (s : State) × (rest : List ℕ) × (next_record default_config st.InField fields field bytes ≡ Some (all, s, rest))
  from_start : (s : State) × (rest : List ℕ) × (next_record default_config st.StartField fields field bytes ≡ Some (all, s, rest))

-- before a byte that is no quote the two are one
finds : (fields : List (List ℕ)) (field : List ℕ) (b : ℕ) (bytes : List ℕ) (all : List (List ℕ)) → (b == 34) ≡ false
    → (s : State) × (rest : List ℕ) × (next_record default_config st.InField fields field (b ∷ bytes) ≡ Some (all, s, rest)) → Finds fields field (b ∷ bytes) all
finds fields field b bytes all other found = record { within = found; from_start = rw (start-same fields field b bytes other) found }

-- what a cut gives, the reader finds
cut_finds : (fields : List (List ℕ)) (field bytes : List ℕ) (all : List (List ℕ)) → cut fields field bytes ≡ Some all → Finds fields field bytes all
unfolding cut next_record
cut_finds fields field [] all e = rw (← same_Some _ _ e) (record { within = (st.StartRecord, [], refl); from_start = (st.StartRecord, [], refl) })
cut_finds fields field (b ∷ bytes) all e =
    by (b == 34) refl (b == 44) refl ((b == 13) || (b == 10)) refl e (cut_finds (fields ++ (field ∷ [])) [] bytes all) (cut_finds fields (field ++ (b ∷ [])) bytes all)
  where
    by : (quote : Bool) → (b == 34) ≡ quote → (comma : Bool) → (b == 44) ≡ comma → (end : Bool) → ((b == 13) || (b == 10)) ≡ end
        → cond quote None (cond comma (cut (fields ++ (field ∷ [])) [] bytes) (cond end (Some (fields ++ (field ∷ []))) (cut fields (field ++ (b ∷ [])) bytes))) ≡ Some all
        → (cut (fields ++ (field ∷ [])) [] bytes ≡ Some all → Finds (fields ++ (field ∷ [])) [] bytes all)
        → (cut fields (field ++ (b ∷ [])) bytes ≡ Some all → Finds fields (field ++ (b ∷ [])) bytes all)
        → Finds fields field (b ∷ bytes) all
    by true q comma k end n e next more = cc e
    by false q true k end n e next more = finds fields field b bytes all q (rw k (next e).from_start)
    by false q false k true n e next more = finds fields field b bytes all q (rw (k, n, ← same_Some _ _ e) (after_end default_config.terminator b, bytes, refl))
    by false q false k false n e next more = finds fields field b bytes all q (rw (k, n) (more e).within)

-- a text that begins with a field, and is cut, begins with the fields that are cut
pub cut_begins : (bytes : List ℕ) (fields : List (List ℕ)) → BeginsAtField bytes → cut [] [] bytes ≡ Some fields → BeginsWith bytes fields
unfolding records_from
cut_begins bytes fields begins cuts =
    let (s, rest, found) = (cut_finds [] [] bytes fields cuts).from_start in
    let text = strip_bom bytes in
    let one_more : length text + 1 ≡ suc (length text) = omega arith in
    record {
      later = records_from default_config (length text) s rest;
      is = ap (λ n. records_from default_config n st.StartRecord text) one_more ∙ ap (records_next (records_from default_config (length text))) (begins ∙ found);
    }

-- one byte more of a line, of which this much is cut
module _ (bytes : List ℕ) (i : ℕ) (there : i < length bytes) (fields : List (List ℕ)) (field : List ℕ) (whole : cut fields field (drop i bytes) ≡ cut [] [] bytes) where
  next_byte : drop i bytes ≡ get_or bytes i 0 ∷ drop (i + 1) bytes
  next_byte = drop_more bytes i 0 there

  pub cut_comma : (after : List (List ℕ)) → get_or bytes i 0 ≡ 44 → fields ++ (field ∷ []) ≡ after → cut after (slice_range bytes (i + 1) (i + 1)) (drop (i + 1) bytes) ≡ cut [] [] bytes
  unfolding cut
  cut_comma after is more =
      let none : (i + 1) - (i + 1) ≡ 0 = omega arith in
      let one : cut fields field (drop i bytes) ≡ cut (fields ++ (field ∷ [])) [] (drop (i + 1) bytes) = rw (next_byte, is) refl in
      rw (none, ← more) (sym one ∙ whole)

  pub cut_end : (get_or bytes i 0 ≡ 13) ⊎ (get_or bytes i 0 ≡ 10) → cut [] [] bytes ≡ Some (fields ++ (field ∷ []))
  unfolding cut
  cut_end (inl is) = sym whole ∙ rw (next_byte, is) refl
  cut_end (inr is) = sym whole ∙ rw (next_byte, is) refl

  pub cut_within : (get_or bytes i 0 ≡ 34 → ⊥) → (get_or bytes i 0 ≡ 44 → ⊥) → (get_or bytes i 0 ≡ 13 → ⊥) → (get_or bytes i 0 ≡ 10 → ⊥)
      → cut fields (field ++ (get_or bytes i 0 ∷ [])) (drop (i + 1) bytes) ≡ cut [] [] bytes
  unfolding cut
  cut_within quote comma cr lf = sym (rw (next_byte, ne_eqb _ 34 quote, ne_eqb _ 44 comma, ne_eqb _ 13 cr, ne_eqb _ 10 lf) refl) ∙ whole

-- at the end of a text
pub cut_past : (bytes : List ℕ) (i : ℕ) (fields : List (List ℕ)) (start : ℕ) → length bytes ≤ i → i ≤ length bytes → cut fields (slice_range bytes start i) (drop i bytes) ≡ cut [] [] bytes
    → cut [] [] bytes ≡ Some (fields ++ (slice_range bytes start (length bytes) ∷ []))
unfolding cut
cut_past bytes i fields start past within whole =
    let ends : i ≡ length bytes = omega arith in
    sym whole ∙ rw (drop_all i bytes past, ends) refl

pub range_more : (xs : List ℕ) (start i : ℕ) → start ≤ i → i < length xs → slice_range xs start (i + 1) ≡ slice_range xs start i ++ (get_or xs i 0 ∷ [])
range_more xs start i before there =
    let parts : (i + 1) - start ≡ (i - start) + 1 = omega arith in
    let within : i - start < length (drop start xs) = omega (arith, length-drop start xs) in
    let place : start + (i - start) ≡ i = omega arith in
    rw (parts, take_more (drop start xs) (i - start) 0 within, get_or-drop start xs (i - start) 0, place) refl

-- the fields after one more, where no byte of another is there yet
pub one_field : (fields after : List (List ℕ)) (partial field : List ℕ) → partial ≡ [] → after ≡ fields ++ ((partial ++ field) ∷ []) → fields ++ (field ∷ []) ≡ after
one_field fields after partial field none is = sym (is ∙ ap (λ (p : List ℕ). fields ++ ((p ++ field) ∷ [])) none)
