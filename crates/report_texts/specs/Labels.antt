-- What reports call cases, deadlines, motions and holidays.
use Rattle.std.specs.Prelude.{ℕ, ℤ, List}
use Rattle.case_numbers.specs.declared.names.NamedCase.{NamedCase}
use Rattle.desk_numbers.specs.declared.moved.Moved.{Moved}
use Rattle.desk_numbers.specs.Words.{TextsView}
use Rattle.reason_texts.specs.Words.{NamedDay}
use Rattle.report_texts.specs.Holidays.{doubtful_days, holiday_names}

-- the cases and the holidays that have names, the deadlines and motions that have other numbers than their places, what rows call
-- cases, deadlines and motions, and the days of which it is in doubt whether the state declares them holidays
pub record LabelsView : Type 0 where
  pub cases : List NamedCase
  pub moved : List Moved
  pub called : TextsView
  pub holidays : List NamedDay
  pub doubtful : List ℤ

-- cases with these names, numbers that were moved and what rows call things, and the holidays of a court's file
abbrev pub labels_of : (file : List ℕ) → List NamedCase → List Moved → TextsView → LabelsView
labels_of file cases moved called = record { cases = cases; moved = moved; called = called; holidays = holiday_names file; doubtful = doubtful_days file }
