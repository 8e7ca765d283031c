-- What a refused command asked for, and what its refusal is about.
use Rattle.std.specs.Prelude.{ℕ, Option, Some, None}
use Rattle.std.specs.Option.{option_and_then}
use Rattle.rule_periods.specs.declared.grant.Request.{Request}
use Rattle.docket_rows.specs.declared.command.Command.{Command}
use Rattle.docket_rows.specs.declared.command.Command.TheVariants.{Extend, Book, MoveHearing}
use Rattle.docket_rows.specs.declared.command.Counted.{Counted}
use Rattle.docket_rows.specs.declared.command.Counted.TheVariants.{Deadline, Motion}
use Rattle.docket_rows.specs.declared.command.Subject.{Subject}
use Rattle.docket_rows.specs.declared.hearing.Setting.{Setting}
use Rattle.docket_rows.specs.declared.refusal.Refusal.{Refusal}
use Rattle.docket_rows.specs.declared.refusal.Refusal.TheVariants.{JudgeBusy, RoomBusy, HearingThatDay, NoticeLost, HearingAhead}
use Rattle.docket_rows.specs.Words.{subject_of}

-- the case and the number of what a command names, where it is a deadline
abbrev pub deadline_named : (case : ℕ) → Counted → (number : ℕ) → Option (ℕ × ℕ)
deadline_named case Deadline number = Some (case, number)
deadline_named case Motion number = None

-- the case and the number of the deadline that a command is about
abbrev pub deadline_asked : Command → Option (ℕ × ℕ)
deadline_asked command = option_and_then (λ (s : Subject). deadline_named s.case s.counted s.number) (subject_of command)

-- the hearing that a command asks for
abbrev pub setting_asked : Command → Option Setting
setting_asked (Book setting) = Some setting
setting_asked (MoveHearing setting) = Some setting
setting_asked command = None

-- the extension that a command asks for
abbrev pub request_asked : Command → Option Request
request_asked (Extend case deadline request) = Some request
request_asked command = None

-- the case and the number of the motion whose hearing a command asks for
abbrev pub motion_of_setting : Option Setting → Option (ℕ × ℕ)
motion_of_setting (Some setting) = Some (setting.case, setting.motion)
motion_of_setting None = None

-- the case and the number of the motion that a refusal names, or else whose hearing the command asks for
abbrev pub motion_of_refusal : Command → Refusal → Option (ℕ × ℕ)
motion_of_refusal command (JudgeBusy case motion) = Some (case, motion)
motion_of_refusal command (RoomBusy case motion) = Some (case, motion)
motion_of_refusal command (HearingThatDay case motion) = Some (case, motion)
motion_of_refusal command (NoticeLost case motion) = Some (case, motion)
motion_of_refusal command (HearingAhead case motion) = Some (case, motion)
motion_of_refusal command refusal = motion_of_setting (setting_asked command)
