-- Codes of periods, and that no period which is read is one that an order sets.
use Rattle.std.proofs.Common.{◌≡◌, ◌∙◌, ◌+◌, ℕ, ℤ, Bool, true, false, List, Option, Some, None, Result, Ok, Err, option_map, refl, rules}
use Rattle.std.specs.Option.{ok_or, option_and_then, option_or}
use Rattle.court_file_text.specs.Words.{NamedTextView}
use Rattle.row_fields.specs.Words.{named_periods}
use Rattle.rule6.specs.declared.service.ServiceKind.{ServiceKind}
use Rattle.rule_periods.specs.declared.period.Entered.{Entered}
use Rattle.rule_periods.specs.declared.period.Length.{Length}
use Rattle.rule_periods.specs.declared.period.Length.TheVariants.{Days, Hours}
use Rattle.rule_periods.specs.declared.period.Period.{Period}
use Rattle.rule_periods.specs.declared.period.Period.TheVariants as period
use Rattle.rule_periods.specs.declared.rule.RulePeriod.{RulePeriod}
use Rattle.rule_periods.specs.Words.{CodesNamePeriods, is_set, is_set_length, rule_code, rule_of_code}
use Rattle.row_forms.specs.declared.fault.RowCause.{RowCause}
use Rattle.row_forms.specs.declared.fault.RowCause.TheVariants.{BadField}
use Rattle.row_forms.specs.declared.forms.periods.Measured.{Measured}
use Rattle.row_forms.specs.Columns.{◌>>=◌, column, day_in, in_column}
use Rattle.row_forms.specs.CourtNames.{CourtNames, office_names}
use Rattle.row_forms.specs.Fields.Choices.{kind_if_given}
use Rattle.row_forms.specs.Fields.Numbers.{count_of}
use Rattle.row_forms.specs.Fields.Cut.{cut_at}
use Rattle.row_forms.specs.Fields.Period.{CodesAreReadBack, SectionCodesAreNew, entered_of, length_of, period_coded, period_entered, period_in, period_of, text_meant}
use Rattle.row_forms.specs.Fields.Times.{day_if_given, minute_or_midnight}
use Rattle.row_forms.specs.Forms.Periods.{measured_from}

pub codes_are_read_back_lem : CodesNamePeriods → CodesAreReadBack
unfolding period_of
codes_are_read_back_lem named rule = rw ((named (rule_code rule) rule).1 refl) refl

pub section_codes_are_new_lem : SectionCodesAreNew
unfolding named_periods period_of entered_of cut_at
section_codes_are_new_lem = refl

-- the length of what is read, if anything is, is counted
record IsCounted (found : Option Entered) : Type 0 where
  counted : (entered : Entered) → found ≡ Some entered → is_set_length entered.length ≡ false

one : (entered : Entered) → is_set_length entered.length ≡ false → IsCounted (Some entered)
one entered e = record { counted = λ other same. let equal : entered ≡ other = cc same in rw (← equal) e }

next : {A : Type 0} (found : Option A) (more : A → Option Entered) → ((x : A) → IsCounted (more x)) → IsCounted (option_and_then more found)
next (Some x) more each = each x
next None more each = record { counted = λ entered none. cc none }

-- a length that is read is a number of days or of hours
next_length : (text : List ℕ) (more : Length → Option Entered) → ((n : ℕ) → IsCounted (more (Days n))) → ((h : ℕ) → IsCounted (more (Hours h))) → IsCounted (option_and_then more (length_of text))
unfolding length_of
next_length text more days hours = by (count_of 100 text) (count_of 104 text)
  where
    by : (d h : Option ℕ) → IsCounted (option_and_then more (option_or (option_map Days d) (option_map Hours h)))
    by (Some n) h = days n
    by None (Some n) = hours n
    by None None = record { counted = λ entered none. cc none }

entered_counted : (text : List ℕ) → IsCounted (entered_of text)
unfolding entered_of
entered_counted text = search (rules, next_length, next, one) depth 16

-- a period that is read
never_set : (text : List ℕ) (p : Period) → period_of text ≡ Some p → is_set p ≡ false
unfolding period_of
never_set text p h = by (rule_of_code text) (entered_of text) refl h
  where
    by : (rule : Option RulePeriod) (found : Option Entered) → entered_of text ≡ found → option_or (option_map period.Rule rule) (option_map period.Entered found) ≡ Some p → is_set p ≡ false
    by (Some rule) found same e = let is : period.Rule rule ≡ p = cc e in rw (← is) refl
    by None None same e = cc e
    by None (Some entered) same e =
        let is : period.Entered entered ≡ p = cc e in
        rw (← is) ((entered_counted text).counted entered same)

-- a period that a text enters
entered_never_set : (text : Option (List ℕ)) (p : Period) → period_entered text ≡ Some p → is_set p ≡ false
entered_never_set None p h = cc h
entered_never_set (Some text) p h = by (entered_of text) refl h
  where
    by : (found : Option Entered) → entered_of text ≡ found → option_map period.Entered found ≡ Some p → is_set p ≡ false
    by None same e = cc e
    by (Some entered) same e =
        let is : period.Entered entered ≡ p = cc e in
        rw (← is) ((entered_counted text).counted entered same)

-- a period that is named by a section's code, or by the court
coded_never_set : (coded : Bool) (own : List NamedTextView) (text : List ℕ) (p : Period) → period_coded coded own text ≡ Some p → is_set p ≡ false
unfolding period_coded
coded_never_set false own text p h = cc h
coded_never_set true own text p h = entered_never_set (text_meant own text) p h

-- a period that rows write in one of these ways
written_never_set : (names : CourtNames) (text : List ℕ) (p : Period) → period_in names text ≡ Some p → is_set p ≡ false
unfolding period_in
written_never_set names text p h = by (period_of text) refl (period_coded names.coded names.periods text) refl h
  where
    by : (found : Option Period) → period_of text ≡ found → (other : Option Period) → period_coded names.coded names.periods text ≡ other → option_or found other ≡ Some p → is_set p ≡ false
    by (Some q) same other coded e = let is : q ≡ p = cc e in rw (← is) (never_set text q same)
    by None same other coded e = coded_never_set names.coded names.periods text p (coded ∙ e)

-- what clerk_office reads as a period, the desk reads alike
period_alike : (names : CourtNames) (text : List ℕ) (p : Period) → period_in (office_names names) text ≡ Some p → period_in names text ≡ Some p
unfolding period_in period_coded
period_alike names text p h = by (period_of text) (period_coded names.coded names.periods text) h
  where
    by : (found other : Option Period) → option_or found None ≡ Some p → option_or found other ≡ Some p
    by (Some q) other e = e
    by None other e = cc e

-- a column that is read in one way where it is in another
column_alike : {A B : Type 0} (n : ℕ) (found other : Option A) (more : A → Result B RowCause) (x : B) → ((y : A) → found ≡ Some y → other ≡ Some y) → (in_column n found >>= more) ≡ Ok x → (in_column n other >>= more) ≡ Ok x
column_alike n None other more x alike h = cc h
column_alike n (Some y) other more x alike h = rw (alike y refl) h

-- so are a period and its event
pub measured_alike : (names : CourtNames) (fields : List (List ℕ)) (n : ℕ) (m : Measured) → measured_from (office_names names) fields n ≡ Ok m → measured_from names fields n ≡ Ok m
unfolding measured_from
measured_alike names fields n m h =
    column_alike n (period_in (office_names names) (column fields n)) (period_in names (column fields n)) _ m (λ p. period_alike names (column fields n) p) h

-- the period of a row of `start` or `compute`
pub measured_counted : (names : CourtNames) (fields : List (List ℕ)) (n : ℕ) (m : Measured) → measured_from names fields n ≡ Ok m → is_set m.period ≡ false
unfolding measured_from
measured_counted names fields n m h =
    by (period_in names (column fields n)) refl (day_in fields (n + 1)) (minute_or_midnight (column fields (n + 2))) (day_if_given (column fields (n + 3))) (kind_if_given (column fields (n + 4))) h
  where
    by : (found : Option Period) → period_in names (column fields n) ≡ found → (day : Result ℤ RowCause) (minute : Option ℕ) (second : Option (Option ℤ)) (kind : Option (Option ServiceKind))
        → (ok_or found (BadField n) >>= (λ p. day >>= (λ d. ok_or minute (BadField (n + 2)) >>= (λ t. ok_or second (BadField (n + 3)) >>= (λ s. ok_or kind (BadField (n + 4)) >>= (λ k. Ok (record { period = p; event = record { day = d; minute = t }; second = s; service = k }))))))) ≡ Ok m
        → is_set m.period ≡ false
    by None same day minute second kind e = cc e
    by (Some p) same (Err cause) minute second kind e = cc e
    by (Some p) same (Ok d) None second kind e = cc e
    by (Some p) same (Ok d) (Some t) None kind e = cc e
    by (Some p) same (Ok d) (Some t) (Some s) None e = cc e
    by (Some p) same (Ok d) (Some t) (Some s) (Some k) e =
        let is : p ≡ m.period = cc e in
        rw (← is) (written_never_set names (column fields n) p same)
