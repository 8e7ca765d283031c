-- What the facts that are recorded of a case come to, and what each is about.
use Rattle.std.specs.Prelude.{ℕ, ◌==◌, ℤ, int_le, int_lt, Bool, true, false, ◌&&◌, not, is_some, List, [], ◌∷◌, ◌++◌, codes, fold, Option, Some, None, if◌then◌else◌}
use Rattle.std.specs.Option.{option_map_or}
use Rattle.docket_rows.specs.declared.command.Counted.TheVariants.{Deadline, Motion}
use Rattle.docket_rows.specs.declared.command.Subject.{Subject}
use Rattle.docket_rows.specs.declared.fact.Assignment.{Assignment}
use Rattle.docket_rows.specs.declared.fact.Closing.{Closing}
use Rattle.docket_rows.specs.declared.fact.Closing.TheVariants.{Dismissed, Judgment, Settled, Transferred, Remanded, Otherwise}
use Rattle.docket_rows.specs.declared.fact.Closure.{Closure}
use Rattle.docket_rows.specs.declared.fact.DatedRuling.{DatedRuling}
use Rattle.docket_rows.specs.declared.fact.Ending.{Ending}
use Rattle.docket_rows.specs.declared.fact.Ending.TheVariants.{Moot, Vacated, Stayed, Suspended, SuspendedBy, Withdrawn, CaseClosed}
use Rattle.docket_rows.specs.declared.fact.Fact.{Fact}
use Rattle.docket_rows.specs.declared.fact.Fact.TheVariants.{Ended, Resumed, Closed, Reopened, Ruled, Assigned, Titled, Labelled}
use Rattle.docket_rows.specs.declared.fact.Ruling.{Ruling}
use Rattle.docket_rows.specs.declared.fact.Ruling.TheVariants as ruling
use Rattle.docket_rows.specs.Cases.{CaseRecordView}

-- A fact that its case keeps. What a case, a deadline or a motion is called is decided, and changes nothing of the docket: the text is
-- kept outside of it, with the row that says it.
abbrev pub is_kept : Fact → Bool
is_kept (Ended deadline why dated) = true
is_kept (Resumed deadline day dated) = true
is_kept (Closed why dated) = true
is_kept (Reopened dated) = true
is_kept (Ruled motion how dated) = true
is_kept (Assigned judge referred dated) = true
is_kept Titled = false
is_kept (Labelled counted number) = false

-- the case with one fact more, and the same if that is one that is kept
abbrev pub keep_fact : Fact → CaseRecordView → CaseRecordView
keep_fact fact c = record c { facts = c.facts ++ fact ∷ [] }

abbrev pub add_fact : Fact → CaseRecordView → CaseRecordView
add_fact fact c = if is_kept fact then keep_fact fact c else c

-- how the case was closed and not reopened, after one fact more
abbrev pub closed_then : Option Closure → Fact → Option Closure
closed_then before (Ended deadline why dated) = before
closed_then before (Resumed deadline day dated) = before
closed_then before (Closed why dated) = Some (record { why = why; dated = dated })
closed_then before (Reopened dated) = None
closed_then before (Ruled motion how dated) = before
closed_then before (Assigned judge referred dated) = before
closed_then before Titled = before
closed_then before (Labelled counted number) = before

-- how the case was closed, if it was and wasn't reopened
unfoldable pub closing_in : List Fact → Option Closure
closing_in facts = fold closed_then None facts

-- why the deadline of that number was ended and not resumed, after one fact more
abbrev pub ended_then : (number : ℕ) → Option Ending → Fact → Option Ending
ended_then number before (Ended deadline why dated) = if deadline == number then Some why else before
ended_then number before (Resumed deadline day dated) = if deadline == number then None else before
ended_then number before (Closed why dated) = before
ended_then number before (Reopened dated) = before
ended_then number before (Ruled motion how dated) = before
ended_then number before (Assigned judge referred dated) = before
ended_then number before Titled = before
ended_then number before (Labelled counted other) = before

-- why the deadline of that number was ended, if it was and wasn't resumed
unfoldable pub ended_in : List Fact → (number : ℕ) → Option Ending
ended_in facts number = fold (ended_then number) None facts

-- Why the deadline of that number is due no more, if it isn't: its case is closed, or it was ended. A case that is closed ends no deadline
-- of which an act is recorded.
unfoldable pub ending_in : List Fact → (number : ℕ) → (acted : Bool) → Option Ending
ending_in facts number acted = if is_some (closing_in facts) && not acted then Some CaseClosed else ended_in facts number

-- the ruling is of a day after this one
abbrev pub is_ruled_after : (day : ℤ) → Option DatedRuling → Bool
is_ruled_after day ruled = option_map_or (λ (r : DatedRuling). int_lt day r.dated) ruled false

-- one ruling more: one of an earlier day takes no later one's place
abbrev pub later_ruling : Option DatedRuling → DatedRuling → Option DatedRuling
later_ruling before ruled = if is_ruled_after ruled.dated before then before else Some ruled

-- how the motion of that number was ruled on, after one fact more
abbrev pub ruled_then : (number : ℕ) → Option DatedRuling → Fact → Option DatedRuling
ruled_then number before (Ended deadline why dated) = before
ruled_then number before (Resumed deadline day dated) = before
ruled_then number before (Closed why dated) = before
ruled_then number before (Reopened dated) = before
ruled_then number before (Ruled motion how dated) =
    if motion == number then later_ruling before (record { ruling = how; dated = dated }) else before
ruled_then number before (Assigned judge referred dated) = before
ruled_then number before Titled = before
ruled_then number before (Labelled counted other) = before

-- how the motion of that number was ruled on, if it was: the ruling of the latest day counts, and of those of one day the last
unfoldable pub ruling_in : List Fact → (number : ℕ) → Option DatedRuling
ruling_in facts number = fold (ruled_then number) None facts

-- the assignment is of a day after this one
abbrev pub is_assigned_after : (day : ℤ) → Option Assignment → Bool
is_assigned_after day assigned = option_map_or (λ (a : Assignment). int_lt day a.dated) assigned false

-- who has the case, after one fact more: an assignment of an earlier day takes no later one's place
abbrev pub assigned_then : Option Assignment → Fact → Option Assignment
assigned_then before (Ended deadline why dated) = before
assigned_then before (Resumed deadline day dated) = before
assigned_then before (Closed why dated) = before
assigned_then before (Reopened dated) = before
assigned_then before (Ruled motion how dated) = before
assigned_then before (Assigned judge referred dated) =
    if is_assigned_after dated before then before else Some (record { judge = judge; referred = referred; dated = dated })
assigned_then before Titled = before
assigned_then before (Labelled counted number) = before

-- who has the case, if it was assigned
unfoldable pub assigned_in : List Fact → Option Assignment
assigned_in facts = fold assigned_then None facts

-- What is so on a day: only facts that are dated by then count

-- the day of the order or the paper that says it; what something is called has none
abbrev pub fact_dated : Fact → Option ℤ
fact_dated (Ended deadline why dated) = Some dated
fact_dated (Resumed deadline day dated) = Some dated
fact_dated (Closed why dated) = Some dated
fact_dated (Reopened dated) = Some dated
fact_dated (Ruled motion how dated) = Some dated
fact_dated (Assigned judge referred dated) = Some dated
fact_dated Titled = None
fact_dated (Labelled counted number) = None

abbrev pub is_by : (day : ℤ) → Fact → Bool
is_by day fact = option_map_or (λ dated. int_le dated day) (fact_dated fact) true

abbrev pub closed_by : (day : ℤ) → Option Closure → Fact → Option Closure
closed_by day before fact = if is_by day fact then closed_then before fact else before

-- how the case was closed on that day, if it was and wasn't reopened
unfoldable pub closing_by : List Fact → (day : ℤ) → Option Closure
closing_by facts day = fold (closed_by day) None facts

abbrev pub ruled_by : (number : ℕ) → (day : ℤ) → Option DatedRuling → Fact → Option DatedRuling
ruled_by number day before fact = if is_by day fact then ruled_then number before fact else before

-- how the motion of that number was ruled on by that day, if it was
unfoldable pub ruling_by : List Fact → (number : ℕ) → (day : ℤ) → Option DatedRuling
ruling_by facts number day = fold (ruled_by number day) None facts

abbrev pub assigned_then_by : (day : ℤ) → Option Assignment → Fact → Option Assignment
assigned_then_by day before fact = if is_by day fact then assigned_then before fact else before

-- who had the case on that day, if it was assigned
unfoldable pub assigned_by : List Fact → (day : ℤ) → Option Assignment
assigned_by facts day = fold (assigned_then_by day) None facts

-- the word by which texts name why a deadline was ended
abbrev pub ending_word : Ending → List ℕ
ending_word Moot = codes "moot"
ending_word Vacated = codes "vacated"
ending_word Stayed = codes "stayed"
ending_word Suspended = codes "suspended"
ending_word (SuspendedBy motion) = codes "suspended"
ending_word Withdrawn = codes "withdrawn"
ending_word CaseClosed = codes "case closed"

-- the motion that suspends a deadline, where its number is known
abbrev pub suspended_by : Ending → Option ℕ
suspended_by (SuspendedBy motion) = Some motion
suspended_by why = None

-- the same with that number of the motion that suspends it, where one does
abbrev pub ending_naming : Ending → (number : ℕ) → Ending
ending_naming (SuspendedBy motion) number = SuspendedBy number
ending_naming why number = why

-- the word by which texts name how a case was closed
abbrev pub closing_word : Closing → List ℕ
closing_word Dismissed = codes "dismissed"
closing_word Judgment = codes "judgment"
closing_word Settled = codes "settled"
closing_word Transferred = codes "transferred"
closing_word Remanded = codes "remanded"
closing_word Otherwise = codes "otherwise"

-- the word by which texts name how a motion was ruled on
abbrev pub ruling_word : Ruling → List ℕ
ruling_word ruling.Granted = codes "granted"
ruling_word ruling.Denied = codes "denied"
ruling_word ruling.InPart = codes "in part"
ruling_word ruling.Moot = codes "moot"
ruling_word ruling.Withdrawn = codes "withdrawn"
ruling_word ruling.Reserved = codes "reserved"

-- the deadline or the motion that a fact of a case is about, if it is about one
abbrev pub fact_subject : (case : ℕ) → Fact → Option Subject
fact_subject case (Ended deadline why dated) = Some (record { case = case; counted = Deadline; number = deadline })
fact_subject case (Resumed deadline day dated) = Some (record { case = case; counted = Deadline; number = deadline })
fact_subject case (Closed why dated) = None
fact_subject case (Reopened dated) = None
fact_subject case (Ruled motion how dated) = Some (record { case = case; counted = Motion; number = motion })
fact_subject case (Assigned judge referred dated) = None
fact_subject case Titled = None
fact_subject case (Labelled counted number) = Some (record { case = case; counted = counted; number = number })

-- the same fact of the deadline or the motion of that number; one of neither stays as it is
abbrev pub fact_naming : Fact → (number : ℕ) → Fact
fact_naming (Ended deadline why dated) number = Ended number why dated
fact_naming (Resumed deadline day dated) number = Resumed number day dated
fact_naming (Closed why dated) number = Closed why dated
fact_naming (Reopened dated) number = Reopened dated
fact_naming (Ruled motion how dated) number = Ruled number how dated
fact_naming (Assigned judge referred dated) number = Assigned judge referred dated
fact_naming Titled number = Titled
fact_naming (Labelled counted other) number = Labelled counted number
