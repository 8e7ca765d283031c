-- The day and the time of an end, as the court's clock shows them.
use Rattle.std.specs.Prelude.{ℕ, ℤ, List, [], ◌++◌, Option, Some, None, codes}
use Rattle.court_clock.specs.Words.{ClockView, CivilTime, civil_of}
use Rattle.rule6.specs.declared.timeliness.Shown.{Shown}
use Rattle.rule6.specs.declared.timeliness.Shown.TheVariants.{Last, Until, Beyond}
use Rattle.reason_texts.specs.Words.{time_of_civil}

abbrev pub civil_day : Option CivilTime → Option ℤ
civil_day (Some at) = Some at.day
civil_day None = None

-- the last day, or the day of an instant
abbrev pub end_day : ClockView → Shown → Option ℤ
end_day clock (Last day act) = Some day
end_day clock (Until t) = civil_day (civil_of clock.zone t)
end_day clock Beyond = None

-- the time of an end that is an instant
abbrev pub end_time : ClockView → Shown → List ℕ
end_time clock (Until t) = codes ", " ++ time_of_civil (civil_of clock.zone t)
end_time clock shown = []
