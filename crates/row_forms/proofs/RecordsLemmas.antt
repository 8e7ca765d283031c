-- The records of a text, one after another.
use Rattle.std.proofs.Common.{◌≡◌, ◌+◌, ◌<◌, ◌≤◌, ℕ, zero, suc, Bool, true, false, List, [], ◌∷◌, Option, Some, None, length, cond, ◌++◌, refl, ap, arith}
use Rattle.std.specs.Prelude.{◌==◌, ◌&&◌}
use Rattle.std.proofs.lemmas.Option.{same_Some}
use Rattle.csv.specs.Machine.{Read, step, in_field, start_field, start_record, after_end, ends_at_end, is_end, ends_with, is_byte, fields_after, field_after, next_record, carriage_return, line_feed}
use Rattle.csv.specs.Reading.{records, records_from, records_next}
use Rattle.row_forms.specs.Records.{all_records}
use Rattle.csv.specs.declared.parser.Action.{Action}
use Rattle.csv.specs.declared.parser.Action.TheVariants as act
use Rattle.csv.specs.declared.parser.Config.{Config}
use Rattle.csv.specs.declared.parser.State.{State}
use Rattle.csv.specs.declared.parser.State.TheVariants as st
use Rattle.csv.specs.declared.parser.Terminator.{Terminator}
use Rattle.csv.specs.declared.parser.Terminator.TheVariants as term

-- a step that ends a record leaves no record begun
record EndsClean (q : State × Action) : Type 0 where
  clean : is_end q.1 ≡ true → ends_at_end q.0 ≡ false

clean_if : (b : Bool) (x y : State × Action) → EndsClean x → EndsClean y → EndsClean (cond b x y)
clean_if true x y p q = p
clean_if false x y p q = q

clean_after_end : (t : Terminator) (c : ℕ) → ends_at_end (after_end t c) ≡ false
clean_after_end term.CRLF c = by (c == carriage_return)
  where
    by : (b : Bool) → ends_at_end (cond b st.AfterCr st.StartRecord) ≡ false
    by true = refl
    by false = refl
clean_after_end (term.Any t) c = refl

-- a step that doesn't end one
going : (s : State) (a : Action) → is_end a ≡ false → EndsClean (s, a)
going s a e = record { clean = λ h. cc (e, h) }

clean_in_field : (cfg : Config) (c : ℕ) → EndsClean (in_field cfg c)
clean_in_field cfg c =
    clean_if (c == cfg.delimiter) (st.StartField, act.EndField) (cond (ends_with cfg.terminator c) (after_end cfg.terminator c, act.EndRecord) (st.InField, act.Copy)) (going _ _ refl) (clean_if (ends_with cfg.terminator c) (after_end cfg.terminator c, act.EndRecord) (st.InField, act.Copy) (record { clean = λ _. clean_after_end cfg.terminator c }) (going _ _ refl))

clean_start_field : (cfg : Config) (c : ℕ) → EndsClean (start_field cfg c)
clean_start_field cfg c = clean_if (cfg.quoting && (c == cfg.quote)) (st.InQuoted, act.Skip) (in_field cfg c) (going _ _ refl) (clean_in_field cfg c)

clean_start_record : (cfg : Config) (c : ℕ) → EndsClean (start_record cfg c)
clean_start_record cfg c =
    clean_if (ends_with cfg.terminator c) (st.StartRecord, act.Skip) (cond (is_byte cfg.comment c) (st.InComment, act.Skip) (start_field cfg c)) (going _ _ refl) (clean_if (is_byte cfg.comment c) (st.InComment, act.Skip) (start_field cfg c) (going _ _ refl) (clean_start_field cfg c))

clean_step : (cfg : Config) (s : State) (c : ℕ) → EndsClean (step cfg s c)
clean_step cfg st.StartRecord c = clean_start_record cfg c
clean_step cfg st.StartField c = clean_start_field cfg c
clean_step cfg st.InField c = clean_in_field cfg c
clean_step cfg st.InQuoted c =
    clean_if (cfg.quoting && (c == cfg.quote)) (st.AfterQuote, act.Skip) (cond (cfg.quoting && is_byte cfg.escape c) (st.InEscape, act.Skip) (st.InQuoted, act.Copy)) (going _ _ refl) (clean_if (cfg.quoting && is_byte cfg.escape c) (st.InEscape, act.Skip) (st.InQuoted, act.Copy) (going _ _ refl) (going _ _ refl))
clean_step cfg st.InEscape c = going _ _ refl
clean_step cfg st.AfterQuote c = clean_if (cfg.quoting && cfg.double_quote && (c == cfg.quote)) (st.InQuoted, act.Copy) (in_field cfg c) (going _ _ refl) (clean_in_field cfg c)
clean_step cfg st.InComment c = clean_if (c == line_feed) (st.StartRecord, act.Skip) (st.InComment, act.Skip) (going _ _ refl) (going _ _ refl)
clean_step cfg st.AfterCr c = clean_if (c == line_feed) (st.StartRecord, act.Skip) (start_record cfg c) (going _ _ refl) (clean_start_record cfg c)

-- how many records there may still be: one for each byte, and one that the end ends
abbrev pub most_records : State → List ℕ → ℕ
most_records s text = length text + cond (ends_at_end s) 1 0

at_most_one : (b : Bool) → cond b 1 0 ≤ 1
at_most_one true = omega arith
at_most_one false = omega arith

-- each record takes one of those
shrinks : (cfg : Config) (s : State) (fields : List (List ℕ)) (field text : List ℕ) (p : Read) → next_record cfg s fields field text ≡ Some p → most_records p.1 p.2 < most_records s text
unfolding next_record
shrinks cfg s fields field [] p h = by (ends_at_end s) h
  where
    by : (b : Bool) → cond b (Some (fields ++ (field ∷ []), st.StartRecord, [])) None ≡ Some p → most_records p.1 p.2 < 0 + cond b 1 0
    by true e = rw (← same_Some _ _ e) (omega arith)
    by false e = cc e
shrinks cfg s fields field (c ∷ rest) p h = by (is_end (step cfg s c).1) refl h (shrinks cfg (step cfg s c).0 (fields_after (step cfg s c).1 fields field) (field_after (step cfg s c).1 c field) rest p)
  where
    by : (b : Bool) → is_end (step cfg s c).1 ≡ b
        → cond b (Some (fields_after (step cfg s c).1 fields field, (step cfg s c).0, rest)) (next_record cfg (step cfg s c).0 (fields_after (step cfg s c).1 fields field) (field_after (step cfg s c).1 c field) rest) ≡ Some p
        → (next_record cfg (step cfg s c).0 (fields_after (step cfg s c).1 fields field) (field_after (step cfg s c).1 c field) rest ≡ Some p → most_records p.1 p.2 < most_records (step cfg s c).0 rest)
        → most_records p.1 p.2 < most_records s (c ∷ rest)
    by true e found more =
        rw (← same_Some _ _ found, (clean_step cfg s c).clean e) (omega arith)
    by false e found more =
        let less = more found in
        let one = at_most_one (ends_at_end (step cfg s c).0) in
        omega arith

-- any number that is large enough gives all the records
enough : (cfg : Config) (m n : ℕ) (s : State) (text : List ℕ) → most_records s text < m → most_records s text < n → records_from cfg m s text ≡ records_from cfg n s text
unfolding records_from
enough cfg zero n s text a b = absurd (omega arith)
enough cfg (suc m) zero s text a b = absurd (omega arith)
enough cfg (suc m) (suc n) s text a b = by (next_record cfg s [] [] text) refl (λ p small. enough cfg m n p.1 p.2 (omega arith) (omega arith))
  where
    by : (o : Option Read) → next_record cfg s [] [] text ≡ o
        → ((p : Read) → most_records p.1 p.2 < most_records s text → records_from cfg m p.1 p.2 ≡ records_from cfg n p.1 p.2)
        → records_next (records_from cfg m) o ≡ records_next (records_from cfg n) o
    by None e more = refl
    by (Some p) e more = ap (λ later. p.0 ∷ later) (more p (shrinks cfg s [] [] text p e))

few : (s : State) (text : List ℕ) → most_records s text < length text + 2
few s text = let one = at_most_one (ends_at_end s) in omega arith

-- the first record, and then the records after it
pub all_records-some : (cfg : Config) (s : State) (text : List ℕ) (p : Read) → next_record cfg s [] [] text ≡ Some p → all_records cfg s text ≡ p.0 ∷ all_records cfg p.1 p.2
unfolding records_from
all_records-some cfg s text p h =
    let less = shrinks cfg s [] [] text p h in
    let small = few s text in
    let two : length text + 2 ≡ suc (length text + 1) = omega arith in
    rw (two, h) (ap (λ later. p.0 ∷ later) (enough cfg (length text + 1) (length p.2 + 2) p.1 p.2 (omega arith) (few p.1 p.2)))

pub all_records-none : (cfg : Config) (s : State) (text : List ℕ) → next_record cfg s [] [] text ≡ None → all_records cfg s text ≡ []
unfolding records_from
all_records-none cfg s text h =
    let two : length text + 2 ≡ suc (length text + 1) = omega arith in
    rw (two, h) refl

-- from the start they are the records of the text
pub all_records-start : (cfg : Config) (text : List ℕ) → all_records cfg st.StartRecord text ≡ records cfg text
all_records-start cfg text = enough cfg (length text + 2) (length text + 1) st.StartRecord text (omega arith) (omega arith)
