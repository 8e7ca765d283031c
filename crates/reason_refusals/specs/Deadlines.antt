-- Why an act or an extension of a deadline is refused.
use Rattle.std.specs.Prelude.{ℕ, List, [], ◌++◌, Option, Some, None, codes, if◌then◌else◌}
use Rattle.court_clock.specs.Words.{ClockView}
use Rattle.court_days.specs.Words.{DaysView}
use Rattle.rule6.specs.declared.timeliness.Shown.{Shown}
use Rattle.rule6.specs.declared.timeliness.Shown.TheVariants.{Until}
use Rattle.rule_periods.specs.declared.grant.Request.{Request}
use Rattle.rule_periods.specs.Words.{DeadlineRowView, is_grant_length, shown_of, with_grant}
use Rattle.reason_texts.specs.Words.{minute_time, note_line}
use Rattle.reason_notes.specs.Margins.Words.{end_day, end_time}

-- the section by which an end is found
abbrev pub end_section : Shown → List ℕ
end_section (Until t) = codes "6(a)(2)"
end_section shown = codes "6(a)(1)"

-- words, and the time of an end that is an instant
abbrev pub end_text : ClockView → List ℕ → Shown → List ℕ
end_text clock words shown = words ++ end_time clock shown

-- the line of an end
unfoldable pub end_line : ClockView → (words section : List ℕ) → Shown → List ℕ
end_line clock words section shown = note_line (end_day clock shown) (end_text clock words shown) section

-- `asked at 09:10, late: a motion is needed`
abbrev pub late_text : Request → List ℕ → List ℕ
late_text request needed = codes "asked at " ++ minute_time request.asked.minute ++ codes ", late: " ++ needed

-- the end of the time, and then when more was asked for, and what a late request needs (Fed. R. Civ. P. 6(b)(1)(B))
abbrev pub late_lines : DaysView → ClockView → List ℕ → Option DeadlineRowView → Option Request → List ℕ
late_lines c clock needed (Some row) (Some request) =
    end_line clock (codes "the time ended") (end_section (shown_of c clock row)) (shown_of c clock row) ++ note_line (Some request.asked.day) (late_text request needed) (codes "6(b)(1)(B)")
late_lines c clock needed row request = []

-- the end with the extension, where its length is in range
unfoldable pub longer_line : DaysView → ClockView → DeadlineRowView → Request → List ℕ
longer_line c clock row request =
    if is_grant_length request.grant
    then end_line clock (codes "with the extension it wouldn't be later") (codes "ours") (shown_of c clock (with_grant row request.grant))
    else []

-- the line of the end as it is, which an extension has to pass
abbrev pub now_line : ClockView → Shown → List ℕ
now_line clock shown = end_line clock (codes "the end as it is, to be passed") (end_section shown) shown

-- the end, and the end with the extension, which isn't later
abbrev pub not_longer_lines : DaysView → ClockView → Option DeadlineRowView → Option Request → List ℕ
not_longer_lines c clock (Some row) (Some request) =
    now_line clock (shown_of c clock row) ++ longer_line c clock row request
not_longer_lines c clock row request = []
