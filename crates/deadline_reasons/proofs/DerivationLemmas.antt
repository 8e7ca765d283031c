-- Reasons that lead somewhere, with one more after them; and that no reason changes what the definitions give.
use Rattle.std.proofs.Common.{◌≡◌, ℤ, false, ◌&&◌, List, [], ◌∷◌, ◌++◌, Result, Ok, Err, IfOk, refl, sym, ◌∙◌, ap, subst}
use Rattle.court_clock.specs.Words.{ClockView}
use Rattle.court_days.specs.Words.{DaysView, has_outage}
use Rattle.rule6.specs.declared.timeliness.Act.{Act}
use Rattle.rule6.specs.declared.timeliness.Act.TheVariants as act
use Rattle.rule_periods.specs.Words.{DeadlineRowView, act_due}
use Rattle.deadline_reasons.specs.declared.reason.Reason.{Reason}
use Rattle.deadline_reasons.specs.declared.reason.Reason.TheVariants as reason
use Rattle.deadline_reasons.specs.Derivation.{Lead, DerivationsEndInWhatIsShown}
use Rattle.deadline_reasons.specs.Follows.{Closes, Follows, GoesOn}
use Rattle.deadline_reasons.specs.Row.{needs_access}
use Rattle.deadline_reasons.specs.Standing.{Standing, Unstarted, Counting, Looking, Runs, CountingHours, HoursEnd, RunsUntil, Moved, MovedUntil, Nowhere, Ended}
use Rattle.deadline_reasons.proofs.Answer.{answer_from}
use Rattle.deadline_reasons.proofs.AnswerLemmas.{begins_keeps, counts_keeps, looks_keeps, closes_keeps, goes_on_keeps, lacks_keeps}
use Rattle.deadline_reasons.proofs.HourLemmas.{counts_hours_keeps, ends_hours_keeps, goes_on_until_keeps, closes_at_keeps}

pub follows_keeps : (c : DaysView) (clock : ClockView) (row : DeadlineRowView) (here : Standing) (r : Reason) (next : Standing) → Follows c clock row here r next → answer_from c clock row next ≡ answer_from c clock row here
follows_keeps c clock row Unstarted r next h = begins_keeps c clock row r next h
follows_keeps c clock row (Counting from n direction rest) r next h = counts_keeps c clock row from n direction rest r next h
follows_keeps c clock row (Looking d look aim) r next h = looks_keeps c clock row d look aim r next h
follows_keeps c clock row (Runs last rest) r next h = goes_on_keeps c clock row last rest.three rest.grants r next h
follows_keeps c clock row (CountingHours from n direction grants) r next h = counts_hours_keeps c clock row from n direction grants r next h
follows_keeps c clock row (HoursEnd end direction grants) r next h = ends_hours_keeps c clock row end direction grants r next h
follows_keeps c clock row (RunsUntil end grants) r next h = goes_on_until_keeps c clock row end grants r next h
follows_keeps c clock row (Moved d) r next h = closes_keeps c clock row _ d r next h
follows_keeps c clock row (MovedUntil end) r next h = closes_at_keeps c clock row end r next h
follows_keeps c clock row (Nowhere grants) r next h = lacks_keeps c clock row grants r next h
follows_keeps c clock row (Ended shown) r next h = absurd h

pub lead_keeps : (c : DaysView) (clock : ClockView) (row : DeadlineRowView) (here : Standing) (reasons : List Reason) (last : Standing) → Lead c clock row here reasons last → answer_from c clock row last ≡ answer_from c clock row here
unfolding Lead
lead_keeps c clock row here [] last h = ap (answer_from c clock row) h
lead_keeps c clock row here (r ∷ reasons) last h =
    lead_keeps c clock row h.0 reasons last h.1.1 ∙ follows_keeps c clock row here r h.0 h.1.0

pub derivation_law : DerivationsEndInWhatIsShown
derivation_law c clock row reasons shown h = lead_keeps c clock row Unstarted reasons (Ended shown) h

-- reasons with one more after them
pub one_more : (c : DaysView) (clock : ClockView) (row : DeadlineRowView) (here : Standing) (reasons : List Reason) (middle : Standing) (r : Reason) (next : Standing) → Lead c clock row here reasons middle → Follows c clock row middle r next → Lead c clock row here (reasons ++ r ∷ []) next
unfolding Lead
one_more c clock row here [] middle r next h follows = (next, (subst (λ s. Follows c clock row s r next) h follows, refl))
one_more c clock row here (x ∷ reasons) middle r next h follows = (h.0, (h.1.0, one_more c clock row h.0 reasons middle r next h.1.1 follows))

-- what holds of an answer, if there is one
pub if_ok : {T E : Type 0} (r : Result T E) (P Q : T → Type 0) → ((x : T) → P x → Q x) → IfOk r P → IfOk r Q
if_ok (Ok x) P Q more h = more x h
if_ok (Err e) P Q more h = h

-- the reason for which a last day closes follows from that day
pub closing_follows : (c : DaysView) (clock : ClockView) (row : DeadlineRowView) (last : ℤ) (a : Act) (r : Reason) (next : Standing) → a ≡ act_due row → (needs_access row && has_outage c last) ≡ false → Closes clock a last r next → GoesOn c clock row last false [] r next
closing_follows c clock row last act.Service (reason.UntilMidnight day) next same accessible h =
    (accessible, subst (λ a. Closes clock a last (reason.UntilMidnight day) next) same h)
closing_follows c clock row last act.Filing (reason.UntilClosing day closes until) next same accessible h =
    (accessible, subst (λ a. Closes clock a last (reason.UntilClosing day closes until) next) same h)
closing_follows c clock row last a r next same accessible h = absurd h

-- no reasons at all lead from a standing to itself
pub lead_nothing : (c : DaysView) (clock : ClockView) (row : DeadlineRowView) (here : Standing) (reasons : List Reason) → reasons ≡ [] → Lead c clock row here reasons here
unfolding Lead
lead_nothing c clock row here reasons none = subst (λ rs. Lead c clock row here rs here) (sym none) refl
