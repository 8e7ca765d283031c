-- The words of a margin begin with those of the state that it comes to.
use Rattle.std.proofs.Common.{ℕ, Option, Some, if◌then◌else◌, refl}
use Rattle.std.specs.Io.{StartsWith}
use Rattle.court_clock.specs.Words.{ClockView}
use Rattle.rule6.specs.declared.timeliness.Filing.{Filing}
use Rattle.rule6.specs.declared.timeliness.Means.{Means}
use Rattle.rule6.specs.declared.timeliness.Shown.{Shown}
use Rattle.docket_rows.specs.declared.sheet.State.TheVariants.{Timely, Late, Undecided as NotDecided}
use Rattle.docket_rows.specs.Words.{state_of}
use Rattle.office_texts.specs.Words.{state_word}
use Rattle.reason_notes.specs.declared.margins.margin.Margin.{Margin}
use Rattle.reason_notes.specs.declared.margins.margin.Margin.TheVariants.{DaysEarly, OnLastDay, AfterDayEnd, DaysLate, SecondsEarly, SecondsLate, Undecided}
use Rattle.reason_notes.specs.Margins.Words.{is_timely_by, is_undecided_by, margin_of, margin_text}
use Rattle.reason_notes.proofs.MarginsLemmas.CallerLemmas.{margin_decides}

-- by what the margin decides
said : (end : Option ℕ) (means : Means) (margin : Margin) → StartsWith (margin_text end means margin) (state_word (if is_undecided_by margin then NotDecided else if is_timely_by margin then Timely else Late))
unfolding margin_text
said end means (DaysEarly n) = refl
said end means OnLastDay = refl
said end means (AfterDayEnd n) = refl
said end means (DaysLate n) = refl
said end means (SecondsEarly n) = refl
said end means (SecondsLate n) = refl
said end means Undecided = refl

pub says_the_state : (clock : ClockView) (shown : Shown) (filing : Filing) (end : Option ℕ) (means : Means) → StartsWith (margin_text end means (margin_of clock shown filing)) (state_word (state_of clock shown (Some filing)))
says_the_state clock shown filing end means =
    let decides = margin_decides clock shown filing in
    rw decides.undecided at (rw decides.timely at (said end means (margin_of clock shown filing)))
