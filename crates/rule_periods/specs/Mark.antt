-- The marks of entered periods, and the word of each.
use Rattle.std.specs.Prelude.{◌≡◌, ◌↔◌, ℕ, List, codes, Option, Some, None, if◌then◌else◌}
use Rattle.std.specs.Str.{bytes_eq}
use Rattle.rule_periods.specs.declared.mark.Mark.{Mark}
use Rattle.rule_periods.specs.declared.mark.Mark.TheVariants.{Plain, Rule50b, Rule50d, Rule52b, Rule59b, Rule59d, Rule59e, Rule60b}

-- the word by which rows and sheets name the mark: the rule whose time must not be extended (Rule 6(b)(2)), or none
abbrev pub mark_code : Mark → List ℕ
mark_code Plain = codes "plain"
mark_code Rule50b = codes "50b"
mark_code Rule50d = codes "50d"
mark_code Rule52b = codes "52b"
mark_code Rule59b = codes "59b"
mark_code Rule59d = codes "59d"
mark_code Rule59e = codes "59e"
mark_code Rule60b = codes "60b"

-- the mark that a word names
unfoldable pub mark_of_code : List ℕ → Option Mark
mark_of_code text =
    if bytes_eq text (mark_code Plain) then Some Plain
    else if bytes_eq text (mark_code Rule50b) then Some Rule50b
    else if bytes_eq text (mark_code Rule50d) then Some Rule50d
    else if bytes_eq text (mark_code Rule52b) then Some Rule52b
    else if bytes_eq text (mark_code Rule59b) then Some Rule59b
    else if bytes_eq text (mark_code Rule59d) then Some Rule59d
    else if bytes_eq text (mark_code Rule59e) then Some Rule59e
    else if bytes_eq text (mark_code Rule60b) then Some Rule60b
    else None

-- what reading a word means: its answer is the one mark with that word
abbrev pub CodesNameMarks : Type 0
CodesNameMarks = (text : List ℕ) (mark : Mark) → (mark_of_code text ≡ Some mark) ↔ (mark_code mark ≡ text)
