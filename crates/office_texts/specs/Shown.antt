-- What is shown of a deadline.
use Rattle.std.specs.Prelude.{ℕ, ◌/◌, ◌%◌, List, ◌∷◌, ◌++◌, Option, Some, None, codes}
use Rattle.jiff_fmt.specs.Text.{pad2}
use Rattle.court_clock.specs.Words.{ClockView, CivilTime, civil_of, day_text}
use Rattle.rule6.specs.declared.timeliness.Shown.{Shown}
use Rattle.rule6.specs.declared.timeliness.Shown.TheVariants as shown

-- `15:00:00`, of a second of the day counted from midnight
abbrev pub time_text : ℕ → List ℕ
time_text second = pad2 (second / 3600) ++ 58 ∷ pad2 (second / 60 % 60) ++ 58 ∷ pad2 (second % 60)

-- The end of hours, as the court's clock shows it. A day covered is always a `Day`, so that an end which is shown has one.
abbrev pub end_text : Option CivilTime → List ℕ
end_text (Some at) = codes "until " ++ day_text at.day ++ codes " " ++ time_text at.second
end_text None = codes "beyond"

-- `last 2025-09-02`, `until 2025-03-17 15:00:00` or `beyond`
abbrev pub shown_text : ClockView → Shown → List ℕ
shown_text clock (shown.Last day act) = codes "last " ++ day_text day
shown_text clock (shown.Until end) = end_text (civil_of clock.zone end)
shown_text clock shown.Beyond = codes "beyond"
