-- When reasons are a derivation of what is shown of a deadline.
use Rattle.std.specs.Prelude.{◌≡◌, List, [], ◌∷◌}
use Rattle.court_clock.specs.Words.{ClockView}
use Rattle.court_days.specs.Words.{DaysView}
use Rattle.rule6.specs.declared.timeliness.Shown.{Shown}
use Rattle.rule_periods.specs.Words.{DeadlineRowView, shown_of}
use Rattle.deadline_reasons.specs.declared.reason.Reason.{Reason}
use Rattle.deadline_reasons.specs.Standing.{Standing, Unstarted, Ended}
use Rattle.deadline_reasons.specs.Follows.{Follows}

-- from where a derivation stands, these reasons lead, one by one, to where it stands last
unfoldable pub Lead : DaysView → ClockView → DeadlineRowView → Standing → List Reason → Standing → Type 0
Lead c clock row here [] last = last ≡ here
Lead c clock row here (r ∷ reasons) last = (next : Standing) × (Follows c clock row here r next × Lead c clock row next reasons last)

-- the reasons lead from nothing to this end
abbrev pub IsDerivation : DaysView → ClockView → DeadlineRowView → List Reason → Shown → Type 0
IsDerivation c clock row reasons shown = Lead c clock row Unstarted reasons (Ended shown)

-- Whatever derivation a deadline has, it ends in what is shown of the deadline.
abbrev pub DerivationsEndInWhatIsShown : Type 0
DerivationsEndInWhatIsShown = (c : DaysView) (clock : ClockView) (row : DeadlineRowView) (reasons : List Reason) (shown : Shown) → IsDerivation c clock row reasons shown → shown ≡ shown_of c clock row

-- A deadline has one derivation.
abbrev pub DeadlinesHaveOneDerivation : Type 0
DeadlinesHaveOneDerivation = (c : DaysView) (clock : ClockView) (row : DeadlineRowView) (reasons others : List Reason) (shown other : Shown) → IsDerivation c clock row reasons shown → IsDerivation c clock row others other → reasons ≡ others
