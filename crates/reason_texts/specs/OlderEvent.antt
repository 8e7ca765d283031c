-- The line that says of an event that it lies before the day from which its period is right as it is applied.
use Rattle.std.specs.Prelude.{ℕ, ℤ, int_lt, List, [], ◌∷◌, ◌++◌, Some, codes, if◌then◌else◌}
use Rattle.court_clock.specs.Words.{day_text}
use Rattle.deadline_reasons.specs.declared.reason.Reason.{Reason}
use Rattle.deadline_reasons.specs.declared.reason.Reason.TheVariants as reason
use Rattle.reason_texts.specs.Day.{day_column}
use Rattle.reason_texts.specs.Spaces.{padded}

-- what happened, in words
abbrev pub older_text : (from : ℤ) → List ℕ
older_text from = codes "the rule as it reads from " ++ day_text from ++ codes " is applied"

-- `  Mon 2009-11-30  the rule as it reads from 2009-12-01 is applied     ours`
unfoldable pub older_line : (event from : ℤ) → List ℕ
older_line event from = codes "  " ++ day_column (Some event) ++ codes "  " ++ padded (older_text from) ++ codes "  ours" ++ 10 ∷ []

-- the line exactly where the event lies before that day
abbrev pub line_if_older : (event from : ℤ) → List ℕ
line_if_older event from = if int_lt event from then older_line event from else []

-- the line comes before the reason that has the day of the event
abbrev pub line_before : (from : ℤ) → Reason → List ℕ
line_before from (reason.Excluded event) = line_if_older event from
line_before from r = []
