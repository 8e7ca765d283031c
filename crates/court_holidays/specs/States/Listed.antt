-- A holiday in the list of a state: sure or in doubt.
use Rattle.std.specs.Prelude.{Bool, true, false}
use Rattle.court_holidays.specs.declared.states.statute.StateHoliday.{StateHoliday}
use Rattle.court_holidays.specs.declared.states.listed.StateDay.{StateDay}
use Rattle.court_holidays.specs.declared.states.listed.StateDay.TheVariants.{Sure, Doubtful}

abbrev pub holiday_of : StateDay → StateHoliday
holiday_of (Sure holiday) = holiday
holiday_of (Doubtful holiday) = holiday

-- whether it is in doubt that the state declares the day a holiday in the sense of Fed. R. Civ. P. 6(a)(6)(C), though a statute
-- names it; the lists say why
abbrev pub is_doubtful : StateDay → Bool
is_doubtful (Sure holiday) = false
is_doubtful (Doubtful holiday) = true
