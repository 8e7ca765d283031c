-- Fields that say one of a few words.
use Rattle.std.specs.Prelude.{ℕ, Bool, true, false, List, [], ◌∷◌, codes, Option, Some, None, option_map, if◌then◌else◌}
use Rattle.std.specs.Option.{option_and_then}
use Rattle.std.specs.Str.{bytes_eq}
use Rattle.court_days.specs.declared.holiday_list.HolidayList.{HolidayList}
use Rattle.court_days.specs.declared.holiday_list.HolidayList.TheVariants.{Federal, State}
use Rattle.rule6.specs.declared.service.ServiceKind.{ServiceKind}
use Rattle.rule6.specs.declared.service.ServiceKind.TheVariants.{HandA, LeftB, MailC, ClerkD, ElectronicE, OtherF}
use Rattle.rule6.specs.declared.timeliness.Means.{Means}
use Rattle.rule6.specs.declared.timeliness.Means.TheVariants.{Electronic, Paper}
use Rattle.docket_rows.specs.declared.command.Counted.{Counted}
use Rattle.docket_rows.specs.declared.command.Counted.TheVariants.{Deadline, Motion}
use Rattle.docket_rows.specs.declared.fact.Closing.{Closing}
use Rattle.docket_rows.specs.declared.fact.Closing.TheVariants as closing
use Rattle.docket_rows.specs.declared.fact.Ending.{Ending}
use Rattle.docket_rows.specs.declared.fact.Ending.TheVariants.{Moot, Vacated, Stayed, Suspended, SuspendedBy, Withdrawn}
use Rattle.docket_rows.specs.declared.fact.Ruling.{Ruling}
use Rattle.docket_rows.specs.declared.fact.Ruling.TheVariants as ruling
use Rattle.row_forms.specs.Fields.Cut.{cut_at}
use Rattle.row_forms.specs.Fields.Numbers.{number_of}

-- the kind of service, by its letter in Rule 5(b)(2)
unfoldable pub kind_of : List ℕ → Option ServiceKind
kind_of letter =
    if bytes_eq letter (codes "A") then Some HandA
    else if bytes_eq letter (codes "B") then Some LeftB
    else if bytes_eq letter (codes "C") then Some MailC
    else if bytes_eq letter (codes "D") then Some ClerkD
    else if bytes_eq letter (codes "E") then Some ElectronicE
    else if bytes_eq letter (codes "F") then Some OtherF
    else None

-- the kind of service that a field says, which may be empty: then there is none
unfoldable pub kind_if_given : List ℕ → Option (Option ServiceKind)
kind_if_given [] = Some None
kind_if_given (b ∷ field) = option_map Some (kind_of (b ∷ field))

-- how a paper reached the clerk
unfoldable pub means_of : List ℕ → Option Means
means_of text = if bytes_eq text (codes "electronic") then Some Electronic else if bytes_eq text (codes "paper") then Some Paper else None

-- the list of holidays
unfoldable pub list_of : List ℕ → Option HolidayList
list_of text = if bytes_eq text (codes "federal") then Some Federal else if bytes_eq text (codes "state") then Some State else None

-- that a motion suspends it: the word, a colon, and the motion's number
unfoldable pub suspension_of : List ℕ → Option Ending
suspension_of text =
    option_and_then (λ (cut : List ℕ × List ℕ). if bytes_eq cut.0 (codes "suspended") then option_map SuspendedBy (number_of cut.1) else None) (cut_at 58 text)

-- why a deadline is due no more
unfoldable pub ending_of : List ℕ → Option Ending
ending_of text =
    if bytes_eq text (codes "moot") then Some Moot
    else if bytes_eq text (codes "vacated") then Some Vacated
    else if bytes_eq text (codes "stayed") then Some Stayed
    else if bytes_eq text (codes "suspended") then Some Suspended
    else if bytes_eq text (codes "withdrawn") then Some Withdrawn
    else suspension_of text

-- how a case was closed
unfoldable pub closing_of : List ℕ → Option Closing
closing_of text =
    if bytes_eq text (codes "dismissed") then Some closing.Dismissed
    else if bytes_eq text (codes "judgment") then Some closing.Judgment
    else if bytes_eq text (codes "settled") then Some closing.Settled
    else if bytes_eq text (codes "transferred") then Some closing.Transferred
    else if bytes_eq text (codes "remanded") then Some closing.Remanded
    else if bytes_eq text (codes "otherwise") then Some closing.Otherwise
    else None

-- how a motion was ruled on
unfoldable pub ruling_of : List ℕ → Option Ruling
ruling_of text =
    if bytes_eq text (codes "granted") then Some ruling.Granted
    else if bytes_eq text (codes "denied") then Some ruling.Denied
    else if bytes_eq text (codes "in part") then Some ruling.InPart
    else if bytes_eq text (codes "moot") then Some ruling.Moot
    else if bytes_eq text (codes "withdrawn") then Some ruling.Withdrawn
    else if bytes_eq text (codes "reserved") then Some ruling.Reserved
    else None

-- whether a deadline or a motion is meant
unfoldable pub counted_of : List ℕ → Option Counted
counted_of text = if bytes_eq text (codes "deadline") then Some Deadline else if bytes_eq text (codes "motion") then Some Motion else None

-- whether something is so
unfoldable pub is_so : List ℕ → Option Bool
is_so text = if bytes_eq text (codes "yes") then Some true else if bytes_eq text (codes "no") then Some false else None
