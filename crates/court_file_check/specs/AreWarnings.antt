-- All that is said of what may be wrong with a court's file.
use Rattle.std.specs.Prelude.{◌≡◌, ℕ, List, [], None, Result, Ok, Err, map}
use Rattle.toml.specs.Data.{Items, Members}
use Rattle.court_file_text.specs.declared.key.Key.TheVariants.{Federal, State}
use Rattle.court_file_text.specs.declared.fault.CourtFault.{CourtFault}
use Rattle.court_file_text.specs.Words.{list_at}
use Rattle.court_days.specs.Words.{CourtFile, DaysView}
use Rattle.court_holidays.specs.Federal.Words.{closing_view}
use Rattle.court_file_check.specs.Review.{days_that}
use Rattle.court_file_check.specs.declared.warnings.Asked.{Asked}
use Rattle.court_file_check.specs.declared.warnings.Warnings.{Warnings}
use Rattle.court_file_check.specs.declared.review.DayTest.TheVariants.{FederalAtWeekend, InBoth, Lacking, StateAtWeekend, Unknown}
use Rattle.court_file_check.specs.declared.warnings.slips.Slip.{Slip}
use Rattle.court_file_check.specs.Warnings.{bare_years, slips_from, closes_early, is_long_day, is_efiling_early, is_short_span, ends_soon, unsaid_closings, unsaid_holidays}

-- the slips of a list, if there is one
abbrev pub slips_in : DaysView → Result Items CourtFault → List (ℕ × Slip)
slips_in c (Ok items) = slips_from c 0 None items
slips_in c (Err e) = []

-- What is said of a file with this text, which says this of its court. What is said of the zone and of names that are alike isn't defined here.
pub record AreWarnings (asked : Asked) (text : List ℕ) (document : Members) (file : CourtFile) (w : Warnings) : Type 0 where
  pub closes_early : w.closes_early ≡ closes_early file.closes
  pub long_day : w.long_day ≡ is_long_day file.opens file.closes
  pub efiling_early : w.efiling_early ≡ is_efiling_early file.closes file.efiling_until
  pub short_span : w.short_span ≡ is_short_span file.days
  pub ends_soon : w.ends_soon ≡ ends_soon file.days asked.today
  pub bare_years : w.bare_years.items ≡ bare_years file.days
  pub lacking : w.lacking.items ≡ days_that file.days (Lacking asked.capital)
  pub unknown : w.unknown.items ≡ days_that file.days (Unknown asked.capital)
  pub closings : map closing_view w.closings.items ≡ unsaid_closings file.days text
  pub unlisted : w.unlisted.items ≡ unsaid_holidays file.days text asked.capital asked.state
  pub federal_at_weekend : w.federal_at_weekend.items ≡ days_that file.days FederalAtWeekend
  pub state_at_weekend : w.state_at_weekend.items ≡ days_that file.days StateAtWeekend
  pub in_both : w.in_both.items ≡ days_that file.days InBoth
  pub federal_slips : w.federal_slips.items ≡ slips_in file.days (list_at Federal 4096 document)
  pub state_slips : w.state_slips.items ≡ slips_in file.days (list_at State 4096 document)
