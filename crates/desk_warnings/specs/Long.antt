-- A hearing that would last long: its slots may be meant as quarter hours, or as minutes.
use Rattle.std.specs.Prelude.{ℕ, ◌*◌, ◌/◌, ◌%◌, nat_eq, nat_lt, List, [], ◌++◌, Option, Some, None, codes, if◌then◌else◌}
use Rattle.std.specs.Fmt.{decimal}
use Rattle.docket_rows.specs.declared.command.Command.{Command}
use Rattle.docket_rows.specs.declared.command.HearingOrder.{HearingOrder}
use Rattle.docket_rows.specs.declared.hearing.Setting.{Setting}
use Rattle.docket_rows.specs.Words.{order_of}
use Rattle.reason_notes.specs.Warnings.Words.{note}

abbrev pub minutes_words : (minutes : ℕ) → List ℕ
minutes_words minutes = if nat_eq minutes 0 then [] else codes " " ++ decimal minutes ++ codes " minutes"

-- `the hearing would last 8 hours 30 minutes`: a slot is 15 minutes
abbrev pub long_words : (count : ℕ) → List ℕ
long_words count = codes "the hearing would last " ++ decimal (count / 4) ++ codes " hours" ++ minutes_words (15 * (count % 4))

-- more than four hours are more than 16 slots
abbrev pub note_if_long : Setting → List ℕ
note_if_long s = if nat_lt 16 s.count then note (Some s.day) (long_words s.count) else []

abbrev pub note_if_set : Option Setting → List ℕ
note_if_set None = []
note_if_set (Some s) = note_if_long s

abbrev pub note_if_ordered : Option HearingOrder → List ℕ
note_if_ordered None = []
note_if_ordered (Some order) = note_if_set order.setting

-- on a command that sets a hearing
abbrev pub long_note : Command → List ℕ
long_note command = note_if_ordered (order_of command)
