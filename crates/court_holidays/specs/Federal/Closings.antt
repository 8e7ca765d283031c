-- The days on which the President closed the executive departments, from 2016 on, each with the order: four times the day before Christmas
-- or both days beside it, and the days of mourning for two Presidents. Whether such a day is a legal holiday, Rule 6(a)(6)(B), is for the
-- court to say.
use Rattle.std.specs.Prelude.{ℕ, List, [], ◌∷◌, codes}
use Rattle.court_holidays.specs.declared.federal.closings.Closing.{Closing}

pub record ClosingView : Type 0 where
  pub day : List ℕ
  pub order : List ℕ

abbrev pub closing_of : (day order : List ℕ) → ClosingView
closing_of day order = record { day = day; order = order }

abbrev pub closing_view : Closing → ClosingView
closing_view closing = closing_of closing.day.now closing.order.now

unfoldable pub closings : List ClosingView
closings = closing_of (codes "2018-12-05") (codes "Executive Order 13852")
    ∷ closing_of (codes "2018-12-24") (codes "Executive Order 13854")
    ∷ closing_of (codes "2019-12-24") (codes "Executive Order 13900")
    ∷ closing_of (codes "2020-12-24") (codes "Executive Order 13965")
    ∷ closing_of (codes "2024-12-24") (codes "Executive Order 14129")
    ∷ closing_of (codes "2025-01-09") (codes "Executive Order 14133")
    ∷ closing_of (codes "2025-12-24") (codes "the Executive Order of 18 December 2025")
    ∷ closing_of (codes "2025-12-26") (codes "the Executive Order of 18 December 2025")
    ∷ []

-- up to this day they are known
abbrev pub closings_known : List ℕ
closings_known = codes "2025-12-31"
