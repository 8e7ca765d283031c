-- The kinds of service after which three days are added.
use Rattle.std.specs.Prelude.{ℤ, pos, int_lt, Bool, true, false}
use Rattle.jiff_core.specs.Calendar.{days_from_civil}
use Rattle.rule6.specs.declared.service.ServiceKind.{ServiceKind}
use Rattle.rule6.specs.declared.service.ServiceKind.TheVariants.{HandA, LeftB, MailC, ClerkD, ElectronicE, OtherF}

-- 2016-12-01, the day on which the amendment of Rule 6(d) took effect
abbrev pub electronic_service_amended : ℤ
electronic_service_amended = days_from_civil (pos 2016) 12 1

-- Three days are added after service by mail, by leaving with the clerk and by other means consented to
-- (Fed. R. Civ. P. 6(d)). Before the amendment of 2016 they are added after electronic service too.
abbrev pub adds_three_days : ServiceKind → ℤ → Bool
adds_three_days HandA served = false
adds_three_days LeftB served = false
adds_three_days MailC served = true
adds_three_days ClerkD served = true
adds_three_days ElectronicE served = int_lt served electronic_service_amended
adds_three_days OtherF served = true
