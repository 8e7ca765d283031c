-- The text of a refusal: its number, its name, and what it names.
use Rattle.std.specs.Prelude.{ℕ, List, [], ◌++◌, codes}
use Rattle.std.specs.Fmt.{decimal}
use Rattle.court_clock.specs.Words.{day_text}
use Rattle.docket_rows.specs.declared.refusal.Refusal.{Refusal}
use Rattle.docket_rows.specs.declared.refusal.Refusal.TheVariants.{ShortNotice, JudgeBusy, RoomBusy, HearingThatDay, NoticeLost, HearingAhead}
use Rattle.docket_rows.specs.Words.{refusal_number, refusal_name}

-- a case and one of its motions
abbrev pub motion_named : (case motion : ℕ) → List ℕ
motion_named case motion = codes " " ++ decimal case ++ codes " " ++ decimal motion

-- the day or the motion that the refusal names, if it names one
abbrev pub refusal_detail : Refusal → List ℕ
refusal_detail (ShortNotice latest) = codes " " ++ day_text latest
refusal_detail (JudgeBusy case motion) = motion_named case motion
refusal_detail (RoomBusy case motion) = motion_named case motion
refusal_detail (HearingThatDay case motion) = motion_named case motion
refusal_detail (NoticeLost case motion) = motion_named case motion
refusal_detail (HearingAhead case motion) = motion_named case motion
refusal_detail _ = []

-- `19 ShortNotice 2025-08-29`
unfoldable pub refusal_text : Refusal → List ℕ
refusal_text refusal = decimal (refusal_number refusal) ++ codes " " ++ refusal_name refusal ++ refusal_detail refusal
