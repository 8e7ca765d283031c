-- Without facts nothing is closed, ended, ruled on or assigned, a closed case ends the deadlines without an act, and what something is
-- called changes nothing.
use Rattle.std.proofs.Common.{◌≡◌, ℕ, Bool, true, false, ◌&&◌, not, is_some, List, [], ◌∷◌, find, Option, Some, None, option_map, refl, sym, ap, subst, append-nil, if◌then◌else◌}
use Rattle.std.specs.List.{list_all}
use Rattle.std.specs.Option.{option_map_or}
use Rattle.std.proofs.lemmas.Bool.{and_parts, false≢true}
use Rattle.docket_rows.specs.declared.command.Command.{Command}
use Rattle.docket_rows.specs.declared.command.Command.TheVariants.{OpenCase, Start, FileAct, Extend, Motion, Book, MoveHearing, Cancel, Holiday, Inaccessible, Fact}
use Rattle.docket_rows.specs.declared.fact.Ending.{Ending}
use Rattle.docket_rows.specs.declared.fact.Ending.TheVariants.{CaseClosed}
use Rattle.docket_rows.specs.declared.fact.Fact.{Fact as FactOf}
use Rattle.docket_rows.specs.declared.fact.Fact.TheVariants.{Ended, Resumed, Closed, Reopened, Ruled, Assigned, Titled, Labelled}
use Rattle.docket_rows.specs.declared.refusal.Refusal.{Refusal}
use Rattle.docket_rows.specs.Words.{CourtSetup, Rows, CaseRecordView, DocketedCase, DocketedDeadline, DocketedFact, assigned_in, case_shown, closing_in, ended_in, ending_in, facts_of, is_case, is_closed, is_kept, opening_rows, parts_of, refusal, rows_after, rows_from, ruling_in, step}
use Rattle.docket_laws.specs.Facts.{records_fact}
use Rattle.docket_laws.specs.Lawful.{deadline_on_sheet, docket_after}
use Rattle.docket_laws.proofs.LawfulLemmas.ListLemmas.{found_stands}
use Rattle.docket_laws.proofs.LawfulLemmas.SeenLemmas.{case_is}

-- a command that records no fact adds none
made_adds_none : (rows : Rows) (command : Command) → rows.facts ≡ [] → not (records_fact command) ≡ true → (rows_after rows command).facts ≡ []
made_adds_none rows (OpenCase case filed) none plain = none
made_adds_none rows (Start case period event second service) none plain = none
made_adds_none rows (FileAct case deadline filing) none plain = none
made_adds_none rows (Extend case deadline request) none plain = none
made_adds_none rows (Motion case served need) none plain = none
made_adds_none rows (Book s) none plain = none
made_adds_none rows (MoveHearing s) none plain = none
made_adds_none rows (Cancel case motion) none plain = none
made_adds_none rows (Holiday day list) none plain = none
made_adds_none rows (Inaccessible day from to) none plain = none
made_adds_none rows (Fact case fact) none plain = absurd (false≢true plain)

refused_or_made : (rows after : Rows) (o : Option Refusal) → rows.facts ≡ [] → after.facts ≡ [] → (option_map_or (λ r. rows) o after).facts ≡ []
refused_or_made rows after None none made = made
refused_or_made rows after (Some r) none made = none

step_adds_none : (setup : CourtSetup) (rows : Rows) (command : Command) → rows.facts ≡ [] → not (records_fact command) ≡ true → (step setup rows command).0.facts ≡ []
unfolding step
step_adds_none setup rows command none plain = refused_or_made rows (rows_after rows command) (refusal setup (parts_of rows) command) none (made_adds_none rows command none plain)

none_from : (setup : CourtSetup) (rows : Rows) (commands : List Command) → rows.facts ≡ [] → list_all (λ command. not (records_fact command)) commands ≡ true → (rows_from setup rows commands).facts ≡ []
unfolding rows_from
none_from setup rows [] none plain = none
none_from setup rows (command ∷ commands) none plain =
    let both = and_parts (not (records_fact command)) (list_all (λ command. not (records_fact command)) commands) plain in
    none_from setup (step setup rows command).0 commands (step_adds_none setup rows command none both.0) both.1

pub never_recorded : (setup : CourtSetup) (commands : List Command) → list_all (λ command. not (records_fact command)) commands ≡ true → (docket_after setup commands).facts ≡ []
never_recorded setup commands plain = none_from setup (opening_rows setup) commands refl plain

-- where none is recorded, no case is closed
found_open : (rows : Rows) (found : Option DocketedCase) → rows.facts ≡ [] → is_some (closing_in (option_map_or (λ (c : CaseRecordView). c.facts) (option_map (case_shown rows) found) [])) ≡ false
unfolding closing_in
found_open rows None none = refl
found_open rows (Some c) none = rw none refl

pub all_open : (rows : Rows) (case : ℕ) → rows.facts ≡ [] → is_closed (parts_of rows) case ≡ false
unfolding parts_of
all_open rows case none = found_open rows (find (is_case case) rows.cases) none

pub all_due : (rows : Rows) (case number : ℕ) (acted : Bool) → rows.facts ≡ [] → ending_in (facts_of rows case) number acted ≡ None
unfolding ending_in ended_in closing_in
all_due rows case number acted none = rw none refl

pub all_unruled : (rows : Rows) (case number : ℕ) → rows.facts ≡ [] → ruling_in (facts_of rows case) number ≡ None
unfolding ruling_in
all_unruled rows case number none = rw none refl

pub all_unassigned : (rows : Rows) (case : ℕ) → rows.facts ≡ [] → assigned_in (facts_of rows case) ≡ None
unfolding assigned_in
all_unassigned rows case none = rw none refl

-- the facts of a closed case close it
found_closed : (rows : Rows) (case : ℕ) (found : Option DocketedCase) → find (is_case case) rows.cases ≡ found → is_some (closing_in (option_map_or (λ (c : CaseRecordView). c.facts) (option_map (case_shown rows) found) [])) ≡ true → is_some (closing_in (facts_of rows case)) ≡ true
unfolding closing_in
found_closed rows case None is closed = absurd (false≢true closed)
found_closed rows case (Some c) is closed =
    let here : c.case ≡ case = case_is case c (found_stands (is_case case) rows.cases c is).1 in
    subst (λ (n : ℕ). is_some (closing_in (facts_of rows n)) ≡ true) here closed

closed_by_facts : (rows : Rows) (case : ℕ) → is_closed (parts_of rows) case ≡ true → is_some (closing_in (facts_of rows case)) ≡ true
unfolding parts_of
closed_by_facts rows case closed = found_closed rows case (find (is_case case) rows.cases) refl closed

-- what comes of an ending, where the case is closed and no act is recorded, and where one is
without_act : (closed acted : Bool) (why : Option Ending) → closed ≡ true → acted ≡ false → (if closed && not acted then Some CaseClosed else why) ≡ Some CaseClosed
without_act closed acted why shut still = rw (shut, still) refl

with_act : (closed acted : Bool) (why : Option Ending) → acted ≡ true → (if closed && not acted then Some CaseClosed else why) ≡ why
with_act true acted why done = rw done refl
with_act false acted why done = refl

pub closed_ends : (setup : CourtSetup) (rows : Rows) (d : DocketedDeadline) → is_closed (parts_of rows) d.case ≡ true → d.row.filed ≡ None → (deadline_on_sheet setup rows d).ended ≡ Some CaseClosed
unfolding ending_in
closed_ends setup rows d closed pending =
    without_act (is_some (closing_in (facts_of rows d.case))) (is_some d.row.filed) (ended_in (facts_of rows d.case) d.number) (closed_by_facts rows d.case closed) (rw pending refl)

pub acted_stays : (setup : CourtSetup) (rows : Rows) (d : DocketedDeadline) → is_some d.row.filed ≡ true → (deadline_on_sheet setup rows d).ended ≡ ended_in (facts_of rows d.case) d.number
unfolding ending_in
acted_stays setup rows d acted =
    with_act (is_some (closing_in (facts_of rows d.case))) (is_some d.row.filed) (ended_in (facts_of rows d.case) d.number) acted

-- a fact that isn't kept leaves the rows as they are
unkept_leaves : (rows : Rows) (case : ℕ) (fact : FactOf) → is_kept fact ≡ false → rows_after rows (Fact case fact) ≡ rows
unkept_leaves rows case (Ended deadline why dated) unkept = absurd (false≢true (sym unkept))
unkept_leaves rows case (Resumed deadline day dated) unkept = absurd (false≢true (sym unkept))
unkept_leaves rows case (Closed why dated) unkept = absurd (false≢true (sym unkept))
unkept_leaves rows case (Reopened dated) unkept = absurd (false≢true (sym unkept))
unkept_leaves rows case (Ruled motion how dated) unkept = absurd (false≢true (sym unkept))
unkept_leaves rows case (Assigned judge referred dated) unkept = absurd (false≢true (sym unkept))
unkept_leaves rows case Titled unkept = ap (λ (fs : List DocketedFact). record rows { facts = fs }) (append-nil rows.facts)
unkept_leaves rows case (Labelled counted number) unkept = ap (λ (fs : List DocketedFact). record rows { facts = fs }) (append-nil rows.facts)

left_either_way : (rows after : Rows) (o : Option Refusal) → after ≡ rows → option_map_or (λ r. rows) o after ≡ rows
left_either_way rows after None same = same
left_either_way rows after (Some r) same = refl

pub called_leaves : (setup : CourtSetup) (rows : Rows) (case : ℕ) (fact : FactOf) → is_kept fact ≡ false → (step setup rows (Fact case fact)).0 ≡ rows
unfolding step
called_leaves setup rows case fact unkept = left_either_way rows (rows_after rows (Fact case fact)) (refusal setup (parts_of rows) (Fact case fact)) (unkept_leaves rows case fact unkept)
