-- How far an end lies from a day, counted in calendar days.
use Rattle.std.specs.Prelude.{ℕ, ℤ, ◌-ℤ◌, int_lt, unsigned_abs, List, [], ◌++◌, Option, Some, None, codes, if◌then◌else◌}
use Rattle.court_clock.specs.Words.{ClockView, day_text}
use Rattle.rule6.specs.declared.timeliness.Shown.{Shown}
use Rattle.reason_texts.specs.Words.{note_line}
use Rattle.reason_notes.specs.Margins.Ends.{end_day}
use Rattle.reason_notes.specs.Margins.Lines.{days_text}

-- `in 12 days`, `today`, `passed 3 days ago`: the difference of the two days' numbers
unfoldable pub ahead_text : (today last : ℤ) → List ℕ
ahead_text today last =
    if int_lt today last then codes "in " ++ days_text (unsigned_abs (last -ℤ today))
    else if int_lt last today then codes "passed " ++ days_text (unsigned_abs (today -ℤ last)) ++ codes " ago"
    else codes "today"

-- `as of 2025-08-21`: the day from which it is counted is where other lines have a section
abbrev pub as_of_text : (today : ℤ) → List ℕ
as_of_text today = codes "as of " ++ day_text today

-- the line of an end: its last day, or the day on which its hours end
abbrev pub ahead_of_day : (today : ℤ) → (last : Option ℤ) → List ℕ
ahead_of_day today (Some last) = note_line (Some last) (ahead_text today last) (as_of_text today)
ahead_of_day today None = []

unfoldable pub ahead_line : ClockView → (today : ℤ) → Shown → List ℕ
ahead_line clock today shown = ahead_of_day today (end_day clock shown)
