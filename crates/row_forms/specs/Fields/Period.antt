-- Periods, as rows write them: the code of a period of the Rules, or LENGTH/DIRECTION/ACT/FROM/MARK; or, at the desk, the code of a
-- section that sets a period which is entered, or the name that the court's file gives to one.
use Rattle.std.specs.Prelude.{◌≡◌, ℕ, Bool, true, false, not, List, codes, Option, Some, None, option_map, if◌then◌else◌}
use Rattle.std.specs.List.{list_all}
use Rattle.std.specs.Option.{is_some, option_and_then, option_or}
use Rattle.std.specs.Str.{bytes_eq}
use Rattle.court_clock.specs.declared.direction.Direction.{Direction}
use Rattle.court_clock.specs.declared.direction.Direction.TheVariants.{After, Before}
use Rattle.rule6.specs.declared.timeliness.Act.{Act}
use Rattle.rule6.specs.declared.timeliness.Act.TheVariants.{Filing, Service}
use Rattle.rule_periods.specs.declared.period.Entered.{Entered}
use Rattle.rule_periods.specs.declared.period.Length.{Length}
use Rattle.rule_periods.specs.declared.period.Period.{Period}
use Rattle.rule_periods.specs.declared.rule.RulePeriod.{RulePeriod}
use Rattle.rule_periods.specs.Words.{mark_of_code, rule_code, rule_of_code}
use Rattle.rule_periods.specs.declared.period.Length.TheVariants.{Days, Hours}
use Rattle.rule_periods.specs.declared.period.Period.TheVariants as period
use Rattle.court_file_text.specs.Words.{NamedTextView, text_named}
use Rattle.row_fields.specs.Words.{NamedPeriodView, named_periods, text_coded}
use Rattle.row_forms.specs.CourtNames.{CourtNames}
use Rattle.row_forms.specs.Fields.Cut.{cut_at}
use Rattle.row_forms.specs.Fields.Numbers.{count_of}

infixl 10 ◌>>=◌
abbrev ◌>>=◌ : {A B : Type 0} → Option A → (A → Option B) → Option B
found >>= more = option_and_then more found

-- a number of days followed by `d`, or of hours followed by `h`
unfoldable pub length_of : List ℕ → Option Length
length_of text = option_or (option_map Days (count_of 100 text)) (option_map Hours (count_of 104 text))

-- the side of the event on which a period lies
unfoldable pub direction_of : List ℕ → Option Direction
direction_of text = if bytes_eq text (codes "after") then Some After else if bytes_eq text (codes "before") then Some Before else None

-- what has to be done within it
unfoldable pub act_of : List ℕ → Option Act
act_of text = if bytes_eq text (codes "filing") then Some Filing else if bytes_eq text (codes "service") then Some Service else None

-- whether it runs from service under Rule 5(b)(2), and else from an event
unfoldable pub is_served : List ℕ → Option Bool
is_served text = if bytes_eq text (codes "event") then Some false else if bytes_eq text (codes "served") then Some true else None

-- a period that a court enters
unfoldable pub entered_of : List ℕ → Option Entered
entered_of text = do
  first ← cut_at 47 text
  second ← cut_at 47 first.1
  third ← cut_at 47 second.1
  fourth ← cut_at 47 third.1
  length ← length_of first.0
  direction ← direction_of second.0
  act ← act_of third.0
  served ← is_served fourth.0
  mark ← mark_of_code fourth.1
  Some (record { length = length; direction = direction; act = act; served = served; mark = mark })

-- a period of the Rules by its code, or else an entered one
unfoldable pub period_of : List ℕ → Option Period
period_of text = option_or (option_map period.Rule (rule_of_code text)) (option_map period.Entered (entered_of text))

-- the period that this text enters, if there is one
abbrev pub period_entered : Option (List ℕ) → Option Period
period_entered None = None
period_entered (Some text) = option_map period.Entered (entered_of text)

-- the text of the period that a section's code names, or else that a court's own name does
abbrev pub text_meant : (own : List NamedTextView) → List ℕ → Option (List ℕ)
text_meant own text = option_or (text_coded text) (text_named own text)

-- the period with this code or name, if codes and names are taken
unfoldable pub period_coded : (coded : Bool) → (own : List NamedTextView) → List ℕ → Option Period
period_coded coded own text = if coded then period_entered (text_meant own text) else None

-- a period as rows with these names write it: as above, or else by its section's code, or else by the court's name for it
unfoldable pub period_in : CourtNames → List ℕ → Option Period
period_in names text = option_or (period_of text) (period_coded names.coded names.periods text)

-- a section's code, if it has one, is read as no other period
abbrev pub is_new : (code : Option (List ℕ)) → Bool
is_new None = true
is_new (Some code) = not (is_some (period_of code))

-- No section's code is that of a period of the Rules, or a period that is entered: so it is read as its section's.
abbrev pub SectionCodesAreNew : Type 0
SectionCodesAreNew = list_all (λ (p : NamedPeriodView). is_new p.code) named_periods ≡ true

-- The code of a period of the Rules is read as that period.
abbrev pub CodesAreReadBack : Type 0
CodesAreReadBack = (rule : RulePeriod) → period_of (rule_code rule) ≡ Some (period.Rule rule)
