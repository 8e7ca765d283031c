-- The lines of reasons.
use Rattle.std.specs.Prelude.{ℕ, List, [], ◌∷◌, ◌++◌, codes}
use Rattle.court_clock.specs.Words.{ClockView}
use Rattle.deadline_reasons.specs.declared.reason.Reason.{Reason}
use Rattle.reason_texts.specs.declared.course.Course.{Course}
use Rattle.reason_texts.specs.Course.{course_after}
use Rattle.reason_texts.specs.Day.{day_column, day_shown}
use Rattle.reason_texts.specs.Names.{NamedDay}
use Rattle.reason_texts.specs.OlderEvent.{line_before}
use Rattle.reason_texts.specs.Section.{section_text}
use Rattle.reason_texts.specs.Spaces.{padded}
use Rattle.reason_texts.specs.What.{what_text}

-- `  Mon 2025-09-01  Labor Day, passed over                              6(a)(1)(C), 6(a)(6)`
unfoldable pub reason_line : ClockView → List NamedDay → Course → Reason → List ℕ
reason_line clock names course r =
    codes "  " ++ day_column (day_shown clock r) ++ codes "  " ++ padded (what_text clock names course.direction r) ++ codes "  " ++ section_text course r ++ 10 ∷ []

-- the line of a reason, after that of an older event where there is one
abbrev pub lines_of : ClockView → List NamedDay → Course → Reason → List ℕ
lines_of clock names course r = line_before course.right_from r ++ reason_line clock names course r

-- the lines of all reasons, from the course before the first of them on
unfoldable pub reason_lines : ClockView → List NamedDay → Course → List Reason → List ℕ
reason_lines clock names course [] = []
reason_lines clock names course (r ∷ reasons) =
    lines_of clock names course r ++ reason_lines clock names (course_after course r) reasons
