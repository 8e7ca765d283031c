-- The records of a text that is divided at the end of a line.
use Rattle.std.proofs.Common.{◌≡◌, ◌++◌, ◌+◌, ◌<◌, ◌∙◌, ◌||◌, ◌⊎◌, ℕ, zero, suc, Bool, true, false, List, [], ◌∷◌, Option, Some, None, length, cond, get_or, take, refl, sym, ap, inl, inr, append-nil, arith}
use Rattle.std.specs.Prelude.{◌==◌, ◌&&◌, not}
use Rattle.std.specs.List.{list_any}
use Rattle.std.proofs.lemmas.Bool.Decides.{nat_tests}
use Rattle.std.proofs.lemmas.Option.{same_Some}
use Rattle.csv.specs.Machine.{Read, step, ends_at_end, is_end, fields_after, field_after, next_record}
use Rattle.csv.specs.Reading.{default_config, records, records_from, strip_bom}
use Rattle.csv.specs.declared.parser.Action.{Action}
use Rattle.csv.specs.declared.parser.Action.TheVariants as act
use Rattle.csv.specs.declared.parser.State.{State}
use Rattle.csv.specs.declared.parser.State.TheVariants as st
use Rattle.row_forms.specs.Records.{all_records}
use Rattle.row_forms.proofs.RecordsLemmas.{all_records-none, all_records-some, all_records-start}
use Rattle.program_runs.specs.Inside.Division.{AreParts, can_be_divided, ends_line, first_of_mark, has_byte, quote}

-- no record is begun
abbrev is_idle : State → Bool
is_idle s = not (ends_at_end s)

-- a record is begun, and no quote is open
abbrev is_busy : State → Bool
is_busy st.StartField = true
is_busy st.InField = true
is_busy st.StartRecord = false
is_busy st.AfterCr = false
is_busy st.InQuoted = false
is_busy st.AfterQuote = false
is_busy st.InEscape = false
is_busy st.InComment = false

abbrev is_start : State → Bool
is_start st.StartRecord = true
is_start st.AfterCr = false
is_start st.StartField = false
is_start st.InField = false
is_start st.InQuoted = false
is_start st.AfterQuote = false
is_start st.InEscape = false
is_start st.InComment = false

start_is : (s : State) → is_start s ≡ true → s ≡ st.StartRecord
start_is st.StartRecord h = refl
start_is st.AfterCr h = cc h
start_is st.StartField h = cc h
start_is st.InField h = cc h
start_is st.InQuoted h = cc h
start_is st.AfterQuote h = cc h
start_is st.InEscape h = cc h
start_is st.InComment h = cc h

busy_ends : (s : State) → is_busy s ≡ true → ends_at_end s ≡ true
busy_ends st.StartField h = refl
busy_ends st.InField h = refl
busy_ends st.StartRecord h = cc h
busy_ends st.AfterCr h = cc h
busy_ends st.InQuoted h = cc h
busy_ends st.AfterQuote h = cc h
busy_ends st.InEscape h = cc h
busy_ends st.InComment h = cc h

-- what a byte that is no quote does where no record is begun: it begins one, or nothing changes
record GoesOnIdle (q : State × Action) : Type 0 where
  plain : is_idle q.0 ≡ false → is_busy q.0 ≡ true
  skips : is_idle q.0 ≡ true → q.1 ≡ act.Skip
  going : is_end q.1 ≡ false

-- what it does where one is begun: the record goes on, or it ends and none is begun
record GoesOnBusy (q : State × Action) : Type 0 where
  going : is_end q.1 ≡ false → is_busy q.0 ≡ true
  ended : is_end q.1 ≡ true → is_idle q.0 ≡ true

begins : (delimits ends cr : Bool) → GoesOnIdle (cond ends (st.StartRecord, act.Skip) (cond delimits (st.StartField, act.EndField) (cond ends (cond cr st.AfterCr st.StartRecord, act.EndRecord) (st.InField, act.Copy))))
begins delimits true cr = record { plain = λ h. cc h; skips = λ _. refl; going = refl }
begins true false cr = record { plain = λ _. refl; skips = λ h. cc h; going = refl }
begins false false cr = record { plain = λ _. refl; skips = λ h. cc h; going = refl }

from_idle : (s : State) (c : ℕ) → is_idle s ≡ true → (c == quote) ≡ false → GoesOnIdle (step default_config s c)
from_idle st.StartRecord c h unquoted = rw unquoted (begins (c == 44) ((c == 13) || (c == 10)) (c == 13))
from_idle st.AfterCr c h unquoted = rw unquoted (by (c == 10) (begins (c == 44) ((c == 13) || (c == 10)) (c == 13)))
  where
    by : (b : Bool) {q : State × Action} → GoesOnIdle q → GoesOnIdle (cond b (st.StartRecord, act.Skip) q)
    by true h = record { plain = λ h. cc h; skips = λ _. refl; going = refl }
    by false h = h
from_idle st.StartField c h unquoted = cc h
from_idle st.InField c h unquoted = cc h
from_idle st.InQuoted c h unquoted = cc h
from_idle st.AfterQuote c h unquoted = cc h
from_idle st.InEscape c h unquoted = cc h
from_idle st.InComment c h unquoted = cc h

goes : (delimits ends cr : Bool) → GoesOnBusy (cond delimits (st.StartField, act.EndField) (cond ends (cond cr st.AfterCr st.StartRecord, act.EndRecord) (st.InField, act.Copy)))
goes true ends cr = record { going = λ _. refl; ended = λ h. cc h }
goes false true true = record { going = λ h. cc h; ended = λ _. refl }
goes false true false = record { going = λ h. cc h; ended = λ _. refl }
goes false false cr = record { going = λ _. refl; ended = λ h. cc h }

from_busy : (s : State) (c : ℕ) → is_busy s ≡ true → (c == quote) ≡ false → GoesOnBusy (step default_config s c)
from_busy st.StartField c h unquoted = rw unquoted (goes (c == 44) ((c == 13) || (c == 10)) (c == 13))
from_busy st.InField c h unquoted = goes (c == 44) ((c == 13) || (c == 10)) (c == 13)
from_busy st.StartRecord c h unquoted = cc h
from_busy st.AfterCr c h unquoted = cc h
from_busy st.InQuoted c h unquoted = cc h
from_busy st.AfterQuote c h unquoted = cc h
from_busy st.InEscape c h unquoted = cc h
from_busy st.InComment c h unquoted = cc h

-- no quote is open
abbrev IsPlain : State → Type 0
IsPlain s = (is_idle s ≡ true) ⊎ (is_busy s ≡ true)

-- the end of a line leaves no record begun
fed : (s : State) → IsPlain s → is_start (step default_config s 10).0 ≡ true
fed st.StartRecord h = refl
fed st.AfterCr h = refl
fed st.StartField h = refl
fed st.InField h = refl
fed st.InQuoted h = elim h [ inl e ↦ cc e | inr e ↦ cc e ]
fed st.AfterQuote h = elim h [ inl e ↦ cc e | inr e ↦ cc e ]
fed st.InEscape h = elim h [ inl e ↦ cc e | inr e ↦ cc e ]
fed st.InComment h = elim h [ inl e ↦ cc e | inr e ↦ cc e ]

-- what a plain state goes to: a plain one, and an idle one where a record ends
record GoesOn (q : State × Action) : Type 0 where
  plain : IsPlain q.0
  ended : is_end q.1 ≡ true → is_idle q.0 ≡ true

goes_idle : (q : State × Action) → GoesOnIdle q → GoesOn q
goes_idle q on = record { plain = by (is_idle q.0) refl; ended = λ e. cc (e, on.going) }
  where
    by : (b : Bool) → is_idle q.0 ≡ b → IsPlain q.0
    by true e = inl e
    by false e = inr (on.plain e)

goes_busy : (q : State × Action) → GoesOnBusy q → GoesOn q
goes_busy q on = record { plain = by (is_end q.1) refl; ended = on.ended }
  where
    by : (b : Bool) → is_end q.1 ≡ b → IsPlain q.0
    by true e = inl (on.ended e)
    by false e = inr (on.going e)

from_plain : (s : State) (c : ℕ) → IsPlain s → (c == quote) ≡ false → GoesOn (step default_config s c)
from_plain s c h unquoted = elim h [ inl e ↦ goes_idle (step default_config s c) (from_idle s c e unquoted) | inr e ↦ goes_busy (step default_config s c) (from_busy s c e unquoted) ]

-- what is left of a text that ends with a line still does
ends_on : (s : State) (c : ℕ) (text : List ℕ) → IsPlain s → ends_line (is_start s) (c ∷ text) ≡ true → ends_line (is_start (step default_config s c).0) text ≡ true
unfolding ends_line
ends_on s c [] plain h =
    let same : c ≡ 10 = grind (arith, nat_tests) in
    rw same (fed s plain)
ends_on s c (d ∷ text) plain h = h

neither : (x y : Bool) → (x || y) ≡ false → (x ≡ false) × (y ≡ false)
neither true y h = cc h
neither false y h = (refl, h)

-- the record that is read next, where it is in the first part
record IsInFirst (s : State) (fields : List (List ℕ)) (field first later : List ℕ) (p : Read) : Type 0 where
  next : next_record default_config s fields field (first ++ later) ≡ Some (p.0, p.1, p.2 ++ later)
  idle : is_idle p.1 ≡ true
  plain : has_byte quote p.2 ≡ false
  ends : ends_line (is_start p.1) p.2 ≡ true
  less : length p.2 < length first

in_first : (s : State) (fields : List (List ℕ)) (field first later : List ℕ) (p : Read) → IsPlain s → has_byte quote first ≡ false → ends_line (is_start s) first ≡ true
    → next_record default_config s fields field first ≡ Some p → IsInFirst s fields field first later p
unfolding next_record ends_line
in_first s fields field [] later p plain none ends h = absurd (by (start_is s ends))
  where
    by : s ≡ st.StartRecord → ⊥
    by start = cc (rw start at h)
in_first s fields field (c ∷ first) later p plain none ends h =
    let unquoted = neither (c == quote) (has_byte quote first) none in
    let on = from_plain s c plain unquoted.0 in
    let left = ends_on s c first plain ends in
    by (is_end q.1) refl h unquoted.1 on left (in_first q.0 (fields_after q.1 fields field) (field_after q.1 c field) first later p on.plain unquoted.1 left)
  where
    q : State × Action
    q = step default_config s c

    rest : Option Read
    rest = next_record default_config q.0 (fields_after q.1 fields field) (field_after q.1 c field) first

    by : (b : Bool) → is_end q.1 ≡ b → cond b (Some (fields_after q.1 fields field, q.0, first)) rest ≡ Some p
        → has_byte quote first ≡ false → GoesOn q → ends_line (is_start q.0) first ≡ true
        → (rest ≡ Some p → IsInFirst q.0 (fields_after q.1 fields field) (field_after q.1 c field) first later p)
        → IsInFirst s fields field (c ∷ first) later p
    by true e found none on left more =
        let same = same_Some _ _ found in
        rw (← same) (record {
          next = rw e refl;
          idle = on.ended e;
          plain = none;
          ends = left;
          less = omega arith;
        })
    by false e found none on left more =
        let is = more found in
        record { next = rw e is.next; idle = is.idle; plain = is.plain; ends = is.ends; less = let less = is.less in omega arith }

-- where a record is begun, one is read
begun : (s : State) (fields : List (List ℕ)) (field text : List ℕ) → is_busy s ≡ true → has_byte quote text ≡ false → next_record default_config s fields field text ≡ None → ⊥
unfolding next_record
begun s fields field [] busy none h = cc (rw (busy_ends s busy) at h)
begun s fields field (c ∷ text) busy none h =
    let unquoted = neither (c == quote) (has_byte quote text) none in
    let on = from_busy s c busy unquoted.0 in
    by (is_end q.1) refl h (λ going. begun q.0 (fields_after q.1 fields field) (field_after q.1 c field) text (on.going going) unquoted.1)
  where
    q : State × Action
    q = step default_config s c

    by : (b : Bool) → is_end q.1 ≡ b → cond b (Some (fields_after q.1 fields field, q.0, text)) (next_record default_config q.0 (fields_after q.1 fields field) (field_after q.1 c field) text) ≡ None
        → (is_end q.1 ≡ false → next_record default_config q.0 (fields_after q.1 fields field) (field_after q.1 c field) text ≡ None → ⊥) → ⊥
    by true e h more = cc h
    by false e h more = more e h

-- a first part without a record leaves the machine as at the start
all_blank : (s : State) (fields : List (List ℕ)) (field first later : List ℕ) → is_idle s ≡ true → has_byte quote first ≡ false → ends_line (is_start s) first ≡ true
    → next_record default_config s fields field first ≡ None → next_record default_config s fields field (first ++ later) ≡ next_record default_config st.StartRecord fields field later
unfolding next_record ends_line
all_blank s fields field [] later idle none ends h = rw (start_is s ends) refl
all_blank s fields field (c ∷ first) later idle none ends h =
    let unquoted = neither (c == quote) (has_byte quote first) none in
    let on = from_idle s c idle unquoted.0 in
    let left = ends_on s c first (inl idle) ends in
    by (is_idle q.0) refl on (rw on.going at h) unquoted.1 (λ still. all_blank q.0 fields field first later still unquoted.1 left)
  where
    q : State × Action
    q = step default_config s c

    by : (b : Bool) → is_idle q.0 ≡ b → GoesOnIdle q → next_record default_config q.0 (fields_after q.1 fields field) (field_after q.1 c field) first ≡ None → has_byte quote first ≡ false
        → (is_idle q.0 ≡ true → next_record default_config q.0 fields field first ≡ None → next_record default_config q.0 fields field (first ++ later) ≡ next_record default_config st.StartRecord fields field later)
        → next_record default_config s fields field (c ∷ (first ++ later)) ≡ next_record default_config st.StartRecord fields field later
    by true e on h none more = rw (on.going, on.skips e) (more e (rw (on.skips e) at h))
    by false e on h none more = absurd (begun q.0 (fields_after q.1 fields field) (field_after q.1 c field) first (on.plain e) none h)

-- texts of which the same is read next have the same records
same_next : (s t : State) (a b : List ℕ) → next_record default_config s [] [] a ≡ next_record default_config t [] [] b → all_records default_config s a ≡ all_records default_config t b
same_next s t a b h = by (next_record default_config t [] [] b) refl
  where
    by : (o : Option Read) → next_record default_config t [] [] b ≡ o → all_records default_config s a ≡ all_records default_config t b
    by None e = all_records-none default_config s a (h ∙ e) ∙ sym (all_records-none default_config t b e)
    by (Some p) e = all_records-some default_config s a p (h ∙ e) ∙ sym (all_records-some default_config t b p e)

divided : (n : ℕ) (s : State) (first later : List ℕ) → length first < n → is_idle s ≡ true → has_byte quote first ≡ false → ends_line (is_start s) first ≡ true
    → all_records default_config s (first ++ later) ≡ all_records default_config s first ++ all_records default_config st.StartRecord later
divided zero s first later few idle none ends = absurd (omega arith)
divided (suc n) s first later few idle none ends =
    by (next_record default_config s [] [] first) refl (λ p is. divided n p.1 p.2 later (let less = is.less in omega arith) is.idle is.plain is.ends)
  where
    by : (o : Option Read) → next_record default_config s [] [] first ≡ o
        → ((p : Read) → IsInFirst s [] [] first later p → all_records default_config p.1 (p.2 ++ later) ≡ all_records default_config p.1 p.2 ++ all_records default_config st.StartRecord later)
        → all_records default_config s (first ++ later) ≡ all_records default_config s first ++ all_records default_config st.StartRecord later
    by None e more =
        rw (all_records-none default_config s first e) (same_next s st.StartRecord (first ++ later) later (all_blank s [] [] first later idle none ends e))
    by (Some p) e more =
        let is = in_first s [] [] first later p (inl idle) none ends e in
        rw (all_records-some default_config s first p e, all_records-some default_config s (first ++ later) (p.0, p.1, p.2 ++ later) is.next) (ap (λ l. p.0 ∷ l) (more p is))

none_of_nothing : records default_config [] ≡ []
unfolding records_from next_record
none_of_nothing = refl

-- the records of a text are those of its first part, which ends with a line or is all of it, and then those of the other
pub records_divided : (first later : List ℕ) → has_byte quote first ≡ false → (ends_line true first ≡ true) ⊎ (later ≡ []) → records default_config (first ++ later) ≡ records default_config first ++ records default_config later
records_divided first later none (inl ends) =
    rw (← all_records-start default_config (first ++ later), ← all_records-start default_config first, ← all_records-start default_config later)
    (divided (length first + 1) st.StartRecord first later (omega arith) refl none ends)
records_divided first later none (inr all) = rw (all, append-nil first, none_of_nothing, append-nil (records default_config first)) refl

-- the end of a line at that place ends the part before it and with it
pub ends_there : (text : List ℕ) (at : ℕ) (begins : Bool) → at < length text → get_or text at 0 ≡ 10 → ends_line begins (take (at + 1) text) ≡ true
unfolding ends_line
ends_there [] at begins within is = absurd (omega arith)
ends_there (b ∷ text) zero begins within is = rw is refl
ends_there (b ∷ text) (suc at) begins within is =
    let on : suc at + 1 ≡ suc (at + 1) = omega arith in
    rw on (ends_there text at (b == 10) (omega arith) is)

-- no part of a text has a byte that the whole has not
any_parts : (p : ℕ → Bool) (first later : List ℕ) → list_any p (first ++ later) ≡ false → (list_any p first ≡ false) × (list_any p later ≡ false)
any_parts p [] later h = (refl, h)
any_parts p (b ∷ first) later h =
    let both = neither (p b) (list_any p (first ++ later)) h in
    let more = any_parts p first later both.1 in
    (rw (both.0, more.0) refl, more.1)

neither_not : (x y : Bool) → (not x && not y) ≡ true → (x ≡ false) × (y ≡ false)
neither_not true y h = cc h
neither_not false true h = cc h
neither_not false false h = (refl, refl)

-- parts of a text that can be divided can be divided too
pub parts_can : (text first later : List ℕ) → first ++ later ≡ text → can_be_divided text ≡ true → (can_be_divided first ≡ true) × (can_be_divided later ≡ true)
parts_can text first later whole can =
    let (quotes, marks) = neither_not (has_byte quote text) (has_byte first_of_mark text) can in
    let (quotes_first, quotes_later) = any_parts (λ b. b == quote) first later (rw (← whole) at quotes) in
    let (marks_first, marks_later) = any_parts (λ b. b == first_of_mark) first later (rw (← whole) at marks) in
    (rw (quotes_first, marks_first) refl, rw (quotes_later, marks_later) refl)

-- a text that can be divided begins with no byte order mark
unmarked : (text : List ℕ) → has_byte first_of_mark text ≡ false → strip_bom text ≡ text
unfolding strip_bom
unmarked [] none = refl
unmarked (a ∷ []) none = refl
unmarked (a ∷ b ∷ []) none = refl
unmarked (a ∷ b ∷ c ∷ text) none =
    let first = neither (a == first_of_mark) (has_byte first_of_mark (b ∷ c ∷ text)) none in
    rw first.0 refl

pub no_mark : (text : List ℕ) → can_be_divided text ≡ true → strip_bom text ≡ text
no_mark text can = unmarked text ((neither_not (has_byte quote text) (has_byte first_of_mark text) can).1)

-- the records of a text in two parts
pub records_of_parts : (text first later : List ℕ) → AreParts text first later → can_be_divided text ≡ true → records default_config (strip_bom text) ≡ records default_config (strip_bom first) ++ records default_config (strip_bom later)
records_of_parts text first later parts can =
    let (can_first, can_later) = parts_can text first later parts.whole can in
    let quotes = (neither_not (has_byte quote first) (has_byte first_of_mark first) can_first).0 in
    rw (no_mark text can, no_mark first can_first, no_mark later can_later, ← parts.whole) (records_divided first later quotes parts.cut)
