-- The end of a deadline by another reading of the Rules, beside the one that is listed.
use Rattle.std.specs.Prelude.{ℕ, List, [], ◌++◌, Option, Some, None, codes}
use Rattle.court_clock.specs.Words.{CivilTime, ClockView, civil_of, day_text}
use Rattle.rule6.specs.declared.timeliness.Shown.{Shown}
use Rattle.rule6.specs.declared.timeliness.Shown.TheVariants as shown
use Rattle.reason_texts.specs.Words.{second_time}

-- an instant, as the court's clock shows it
abbrev pub instant_words : Option CivilTime → List ℕ
instant_words (Some at) = day_text at.day ++ codes " " ++ second_time at.second
instant_words None = codes "beyond"

-- its last day or its instant, or that no covered day ends the time
abbrev pub given_words : ClockView → Shown → List ℕ
given_words clock (shown.Last day act) = day_text day
given_words clock (shown.Until end) = instant_words (civil_of clock.zone end)
given_words clock shown.Beyond = codes "beyond"

unfoldable pub reading_front : List ℕ
reading_front = codes "other reading "

-- `other reading 2026-07-02`, `other reading 2025-03-11 15:00:00` or `other reading beyond`
unfoldable pub reading_words : ClockView → Shown → List ℕ
reading_words clock other = reading_front ++ given_words clock other

-- what is said of an end by another reading, if there is one
abbrev pub other_words : ClockView → Option Shown → List ℕ
other_words clock (Some other) = codes ", " ++ reading_words clock other
other_words clock None = []
