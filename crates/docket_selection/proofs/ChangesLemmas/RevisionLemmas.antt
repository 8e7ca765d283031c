-- One command more raises the revision of a case's events, or leaves all on which they rest.
use Rattle.std.proofs.Common.{◌≡◌, ◌<◌, ◌≤◌, ◌+◌, ◌∙◌, ◌==◌, ◌&&◌, ◌||◌, ℕ, ℤ, suc, max, Bool, true, false, is_some, cond, List, [], ◌∷◌, ◌++◌, length, nat_le, map, fold, filter, All, Option, Some, None, option_map, option_to_list, if◌then◌else◌, append_assoc, append-nil, refl, sym, ap, subst, arith, inl, inr}
use Rattle.std.specs.Option.{option_map_or}
use Rattle.std.proofs.Math.Nat.{le-max_left, le-max_right, max-le}
use Rattle.std.proofs.lemmas.Bool.{cases_Bool, eqb-true, and_parts, false≢true}
use Rattle.std.proofs.lemmas.Bool.Decides.{nat_tests}
use Rattle.std.proofs.lemmas.List.Elements.{All-append, All-cons, All-head, All-nil, All-tail, filter-append}
use Rattle.std.proofs.lemmas.List.Sums.{fold-append}
use Rattle.docket_rows.specs.declared.answer.Answer.{Answer}
use Rattle.docket_rows.specs.declared.answer.Answer.TheVariants as answer
use Rattle.docket_rows.specs.declared.command.Command.{Command}
use Rattle.docket_rows.specs.declared.command.Command.TheVariants.{OpenCase, Start, FileAct, Extend, Motion, Book, MoveHearing, Cancel, Holiday, Inaccessible, Fact}
use Rattle.docket_rows.specs.declared.fact.Fact.{Fact as FactOf}
use Rattle.docket_rows.specs.declared.fact.Fact.TheVariants.{Ended, Resumed, Closed, Reopened, Ruled, Assigned, Titled, Labelled}
use Rattle.docket_rows.specs.declared.fact.Ruling.{Ruling}
use Rattle.docket_rows.specs.declared.hearing.Hearing.{Hearing}
use Rattle.docket_rows.specs.declared.refusal.Refusal.{Refusal}
use Rattle.docket_rows.specs.Words.{AreSound, CourtSetup, DocketedDeadline, DocketedFact, Rows, answer_if_made, answered, ended_answer, hearing_of, if_ahead, is_deadline_in, is_fact_in, is_kept, next_deadline, opening_rows, parts_of, refusal, rows_after, rows_from, started, step, with_deadline, with_fact, without_hearing}
use Rattle.rule6.specs.declared.timeliness.Shown.{Shown}
use Rattle.rule_periods.specs.declared.grant.Request.{Request}
use Rattle.rule_periods.specs.Words.{DeadlineRowView, is_order}
use Rattle.docket_laws.specs.Words.{docket_after}
use Rattle.docket_laws.proofs.CallerLemmas.{can_book, can_move, count_of, hearing_seen, sound_docket}
use Rattle.docket_selection.specs.declared.changes.change.Change.{Change}
use Rattle.docket_selection.specs.declared.changes.change.RowChange.{RowChange}
use Rattle.docket_selection.specs.Changes.Change.{change_asked, change_by, change_made}
use Rattle.docket_selection.specs.Changes.Laws.{KeepsEvents, RevisionsRiseWithEvents, changes_by, changes_from}
use Rattle.docket_selection.specs.Changes.Revision.{changes_case, changes_days, last_row, revision_of}
use Rattle.docket_selection.proofs.ChangesLemmas.DocketLemmas.{after_taking, moved_docketed, set_docketed}

-- no row is later than the last

abbrev later : (Change → Bool) → ℕ → RowChange → ℕ
later is_such before c = if is_such c.change then max before c.row else before

within : (is_such : Change → Bool) (n before : ℕ) (changes : List RowChange) → before ≤ n → All (λ (c : RowChange). c.row ≤ n) changes → fold (later is_such) before changes ≤ n
within is_such n before [] low rows = low
within is_such n before (c ∷ cs) low rows =
    let first : c.row ≤ n = All-head (λ (x : RowChange). x.row ≤ n) c cs rows in
    let rest = All-tail (λ (x : RowChange). x.row ≤ n) c cs rows in
    elim (cases_Bool (is_such c.change)) [
      | inl it ↦ rw it (within is_such n (max before c.row) cs (max-le low first) rest)
      | inr other ↦ rw other (within is_such n before cs low rest)
    ]

-- what a row changed has its number
module _ (Holds : ℕ → Type 0) (row : ℕ) (command : Command) (holds : Holds row) where
  asked_at : (change : Option Change) → All (λ (c : RowChange). Holds c.row) (option_to_list (option_map (λ change. record { row = row; change = change }) change))
  asked_at None = All-nil (λ (c : RowChange). Holds c.row)
  asked_at (Some change) = All-cons (λ (c : RowChange). Holds c.row) (record { row = row; change = change }) [] holds (All-nil (λ (c : RowChange). Holds c.row))

  made_at : (a : Answer) → All (λ (c : RowChange). Holds c.row) (option_to_list (change_made row command a))
  made_at answer.Opened = asked_at (change_asked command)
  made_at (answer.Started number shown) = asked_at (change_asked command)
  made_at (answer.Filed timely) = asked_at (change_asked command)
  made_at (answer.Extended shown) = asked_at (change_asked command)
  made_at (answer.Reset shown) = asked_at (change_asked command)
  made_at (answer.MotionEntered number) = asked_at (change_asked command)
  made_at answer.Booked = asked_at (change_asked command)
  made_at answer.Moved = asked_at (change_asked command)
  made_at answer.Cancelled = asked_at (change_asked command)
  made_at answer.HolidayEntered = asked_at (change_asked command)
  made_at answer.OutageEntered = asked_at (change_asked command)
  made_at answer.Ended = asked_at (change_asked command)
  made_at answer.Closed = asked_at (change_asked command)
  made_at answer.Reopened = asked_at (change_asked command)
  made_at (answer.Ruled day) = asked_at (change_by command day)
  made_at answer.Assigned = asked_at (change_asked command)
  made_at answer.Titled = asked_at (change_asked command)
  made_at answer.Labelled = asked_at (change_asked command)
  made_at (answer.Resumed shown) = asked_at (change_asked command)
  made_at (answer.Refused refusal) = All-nil (λ (c : RowChange). Holds c.row)

rows_within : (setup : CourtSetup) (rows : Rows) (row n : ℕ) (commands : List Command) → row + length commands ≤ n + 1 → All (λ (c : RowChange). c.row ≤ n) (changes_from setup rows row commands)
unfolding changes_from
rows_within setup rows row n [] low = All-nil (λ (c : RowChange). c.row ≤ n)
rows_within setup rows row n (c ∷ cs) low =
    All-append (λ (x : RowChange). x.row ≤ n) _ _
    (made_at (λ r. r ≤ n) row c (omega (arith, low)) (step setup rows c).1)
    (rows_within setup (step setup rows c).0 (row + 1) n cs (omega (arith, low)))

-- one command more

changes_more : (setup : CourtSetup) (rows : Rows) (row : ℕ) (commands : List Command) (command : Command) → changes_from setup rows row (commands ++ command ∷ []) ≡ changes_from setup rows row commands ++ option_to_list (change_made (row + length commands) command (step setup (rows_from setup rows commands) command).1)
unfolding changes_from rows_from
changes_more setup rows row [] command =
    let e : row + 0 ≡ row = omega arith in
    rw e (append-nil (option_to_list (change_made row command (step setup rows command).1)))
changes_more setup rows row (c ∷ cs) command =
    let next = (step setup rows c).0 in
    let first = option_to_list (change_made row c (step setup rows c).1) in
    let e : row + suc (length cs) ≡ row + 1 + length cs = omega arith in
    rw e (ap (λ l. first ++ l) (changes_more setup next (row + 1) cs command) ∙ sym (append_assoc first (changes_from setup next (row + 1) cs) _))

docket_more : (setup : CourtSetup) (rows : Rows) (commands : List Command) (command : Command) → rows_from setup rows (commands ++ command ∷ []) ≡ (step setup (rows_from setup rows commands) command).0
unfolding rows_from
docket_more setup rows [] command = refl
docket_more setup rows (c ∷ cs) command = docket_more setup (step setup rows c).0 cs command

-- what a command leaves

other_deadline : (case of number : ℕ) (change : DeadlineRowView → DeadlineRowView) → (of == case) ≡ false → (deadlines : List DocketedDeadline) → filter (is_deadline_in case) (map (with_deadline of number change) deadlines) ≡ filter (is_deadline_in case) deadlines
other_deadline case of number change differ [] = refl
other_deadline case of number change differ (d ∷ ds) = elim (cases_Bool (d.case == of && d.number == number)) [
  | inl it ↦
      let same : d.case ≡ of = eqb-true d.case of (and_parts (d.case == of) (d.number == number) it).0 in
      let elsewhere : (d.case == case) ≡ false = rw same differ in
      rw (it, elsewhere) (other_deadline case of number change differ ds)
  | inr other ↦ elim (cases_Bool (d.case == case)) [
    | inl here ↦ rw (other, here) (ap (λ l. d ∷ l) (other_deadline case of number change differ ds))
    | inr elsewhere ↦ rw (other, elsewhere) (other_deadline case of number change differ ds)
  ]
]

-- the change is one of the case's events
abbrev touches : (case : ℕ) → Change → Bool
touches case change = changes_days change || changes_case case change

abbrev made_touches : (case : ℕ) → Option RowChange → Bool
made_touches case made = option_map_or (λ (c : RowChange). touches case c.change) made false

-- whichever way a time is extended, it touches its own case
extension_touches : (case row of deadline : ℕ) (request : Request) (order : Bool) (end : Shown) → made_touches case (change_made row (Extend of deadline request) (ended_answer order end)) ≡ false → (of == case) ≡ false
extension_touches case row of deadline request true end other = other
extension_touches case row of deadline request false end other = other

-- one more fact of another case, which is kept or isn't
kept_elsewhere : (facts : List DocketedFact) (case : ℕ) (f : DocketedFact) (kept : Bool) → (f.case == case) ≡ false → filter (is_fact_in case) (facts ++ cond kept (f ∷ []) []) ≡ filter (is_fact_in case) facts
kept_elsewhere facts case f true other = filter-append (is_fact_in case) facts (f ∷ []) ∙ rw other (append-nil (filter (is_fact_in case) facts))
kept_elsewhere facts case f false other = ap (filter (is_fact_in case)) (append-nil facts)

-- a fact of another case
recorded_elsewhere : (rows : Rows) (case of : ℕ) (fact : FactOf) → (of == case) ≡ false → KeepsEvents case rows (with_fact of fact rows)
recorded_elsewhere rows case of fact other = record {
  days = refl;
  deadlines = refl;
  hearings = λ motion. refl;
  facts = kept_elsewhere rows.facts case (record { case = of; fact = fact }) (is_kept fact) other;
}

-- a ruling in another case, which takes this hearing of its motion off, if any
ruled_elsewhere : (rows : Rows) (case row of of_motion : ℕ) (how : Ruling) (dated : ℤ) (taken : Option Hearing) → made_touches case (change_made row (Fact of (Ruled of_motion how dated)) (answer.Ruled (option_map (λ (h : Hearing). h.day) taken))) ≡ false
    → KeepsEvents case rows (record (with_fact of (Ruled of_motion how dated) rows) { hearings = if is_some taken then (without_hearing of of_motion rows).hearings else rows.hearings })
ruled_elsewhere rows case row of of_motion how dated None other = recorded_elsewhere rows case of (Ruled of_motion how dated) other
ruled_elsewhere rows case row of of_motion how dated (Some h) other = record {
  days = refl;
  deadlines = refl;
  hearings = λ motion. rw other at (after_taking rows.hearings of of_motion case motion);
  facts = (recorded_elsewhere rows case of (Ruled of_motion how dated) other).facts;
}

made_keeps : (setup : CourtSetup) (rows : Rows) (case row : ℕ) → AreSound setup rows → (command : Command) → refusal setup (parts_of rows) command ≡ None → made_touches case (change_made row command (answer_if_made setup (parts_of rows) command)) ≡ false → KeepsEvents case rows (rows_after rows command)
made_keeps setup rows case row sound (OpenCase of filed) free other = record { days = refl; deadlines = refl; hearings = λ motion. refl; facts = refl }
made_keeps setup rows case row sound (Start of period event second service) free other = record {
  days = refl;
  deadlines = filter-append (is_deadline_in case) rows.deadlines (record { case = of; number = next_deadline (parts_of rows) of; row = started period event second service } ∷ []) ∙ rw other (append-nil (filter (is_deadline_in case) rows.deadlines));
  hearings = λ motion. refl;
  facts = refl;
}
made_keeps setup rows case row sound (FileAct of deadline filing) free other = record {
  days = refl;
  deadlines = other_deadline case of deadline _ other rows.deadlines;
  hearings = λ motion. refl;
  facts = refl;
}
made_keeps setup rows case row sound (Extend of deadline request) free other = record {
  days = refl;
  deadlines = other_deadline case of deadline _ (extension_touches case row of deadline request (is_order request.grant) _ other) rows.deadlines;
  hearings = λ motion. refl;
  facts = refl;
}
made_keeps setup rows case row sound (Motion of served need) free other = record { days = refl; deadlines = refl; hearings = λ motion. refl; facts = refl }
made_keeps setup rows case row sound (Book s) free other =
    let few = count_of s.first s.count (can_book setup (parts_of rows) s free).fits in
    let short : nat_le s.count 96 ≡ true = grind (arith, nat_tests) in
    let differ : (s.case == case) ≡ false = rw short at other in
    record { days = refl; deadlines = refl; hearings = λ motion. rw differ at (set_docketed setup rows s sound free case motion); facts = refl }
made_keeps setup rows case row sound (MoveHearing s) free other =
    let few = count_of s.first s.count (can_move setup (parts_of rows) s free).fits in
    let short : nat_le s.count 96 ≡ true = grind (arith, nat_tests) in
    let differ : (s.case == case) ≡ false = rw short at other in
    record { days = refl; deadlines = refl; hearings = λ motion. rw differ at (moved_docketed rows s case motion); facts = refl }
made_keeps setup rows case row sound (Cancel of of_motion) free other =
    record { days = refl; deadlines = refl; hearings = λ motion. rw other at (after_taking rows.hearings of of_motion case motion); facts = refl }
made_keeps setup rows case row sound (Holiday day list) free other = absurd (false≢true (sym other))
made_keeps setup rows case row sound (Inaccessible day from to) free other = absurd (false≢true (sym other))
made_keeps setup rows case row sound (Fact of (Ended deadline why dated)) free other = recorded_elsewhere rows case of (Ended deadline why dated) other
made_keeps setup rows case row sound (Fact of (Resumed deadline day dated)) free other = record {
  days = refl;
  deadlines = other_deadline case of deadline _ other rows.deadlines;
  hearings = λ motion. refl;
  facts = (recorded_elsewhere rows case of (Resumed deadline day dated) other).facts;
}
made_keeps setup rows case row sound (Fact of (Closed why dated)) free other = recorded_elsewhere rows case of (Closed why dated) other
made_keeps setup rows case row sound (Fact of (Reopened dated)) free other = recorded_elsewhere rows case of (Reopened dated) other
made_keeps setup rows case row sound (Fact of (Ruled of_motion how dated)) free other =
    let P : Option Hearing → Type 0 = λ set. made_touches case (change_made row (Fact of (Ruled of_motion how dated)) (answer.Ruled (option_map (λ (h : Hearing). h.day) (if_ahead dated set)))) ≡ false in
    ruled_elsewhere rows case row of of_motion how dated (if_ahead dated (hearing_of rows of of_motion)) (subst P (hearing_seen setup rows sound of of_motion) other)
made_keeps setup rows case row sound (Fact of (Assigned judge referred dated)) free other = recorded_elsewhere rows case of (Assigned judge referred dated) other
made_keeps setup rows case row sound (Fact of Titled) free other = recorded_elsewhere rows case of Titled other
made_keeps setup rows case row sound (Fact of (Labelled counted number)) free other = recorded_elsewhere rows case of (Labelled counted number) other

step_keeps : (setup : CourtSetup) (rows : Rows) (case row : ℕ) → AreSound setup rows → (command : Command) → made_touches case (change_made row command (step setup rows command).1) ≡ false → KeepsEvents case rows (step setup rows command).0
unfolding step answered
step_keeps setup rows case row sound command other = by_refusal (refusal setup (parts_of rows) command) refl other where
  by_refusal : (r : Option Refusal) → refusal setup (parts_of rows) command ≡ r → made_touches case (change_made row command (option_map_or answer.Refused r (answer_if_made setup (parts_of rows) command))) ≡ false → KeepsEvents case rows (option_map_or (λ refused. rows) r (rows_after rows command))
  by_refusal (Some refused) is other = record { days = refl; deadlines = refl; hearings = λ motion. refl; facts = refl }
  by_refusal None free other = made_keeps setup rows case row sound command free other

-- the last row of some changes, and of one more that may be none

more_rows : (is_such : Change → Bool) (changes : List RowChange) (made : Option RowChange) → last_row is_such (changes ++ option_to_list made) ≡ option_map_or (later is_such (last_row is_such changes)) made (last_row is_such changes)
more_rows is_such changes None = ap (last_row is_such) (append-nil changes)
more_rows is_such changes (Some c) = fold-append (later is_such) 0 changes (c ∷ [])

-- one that touches the case has a greater number, and another changes nothing
raised : (case n : ℕ) (changes : List RowChange) (c : RowChange) → revision_of case changes ≤ n → n < c.row → touches case c.change ≡ true → revision_of case changes < max (later changes_days (last_row changes_days changes) c) (later (changes_case case) (last_row (changes_case case) changes) c)
raised case n changes c low row it = elim (cases_Bool (changes_days c.change)) [
  | inl days ↦
      let one = le-max_right (last_row changes_days changes) c.row in
      let two = le-max_left (max (last_row changes_days changes) c.row) (later (changes_case case) (last_row (changes_case case) changes) c) in
      rw days (omega (arith, low, row, one, two))
  | inr none ↦
      let own : changes_case case c.change ≡ true = rw none at it in
      let one = le-max_right (last_row (changes_case case) changes) c.row in
      let two = le-max_right (last_row changes_days changes) (max (last_row (changes_case case) changes) c.row) in
      rw (none, own) (omega (arith, low, row, one, two))
]

left_alone : (case : ℕ) (changes : List RowChange) (made : Option RowChange) → made_touches case made ≡ false → revision_of case (changes ++ option_to_list made) ≡ revision_of case changes
left_alone case changes None other = ap (revision_of case) (append-nil changes)
left_alone case changes (Some c) other = elim (cases_Bool (changes_days c.change)) [
  | inl days ↦ absurd (false≢true (sym other ∙ rw days refl))
  | inr none ↦
      let elsewhere : changes_case case c.change ≡ false = rw none at other in
      rw (more_rows changes_days changes (Some c), more_rows (changes_case case) changes (Some c)) (rw (none, elsewhere) refl)
]

one_more : (case n : ℕ) (changes : List RowChange) (made : Option RowChange) → revision_of case changes ≤ n → All (λ (c : RowChange). n < c.row) (option_to_list made) → made_touches case made ≡ true → revision_of case changes < revision_of case (changes ++ option_to_list made)
one_more case n changes None low above it = absurd (false≢true it)
one_more case n changes (Some c) low above it =
    rw (more_rows changes_days changes (Some c), more_rows (changes_case case) changes (Some c)) (raised case n changes c low (All-head (λ (x : RowChange). n < x.row) c [] above) it)

pub revisions_rise : RevisionsRiseWithEvents
revisions_rise setup commands command case =
    let rows = docket_after setup commands in
    let n = length commands in
    let changes = changes_by setup commands in
    let made = change_made (1 + n) command (step setup rows command).1 in
    let more : changes_by setup (commands ++ command ∷ []) ≡ changes ++ option_to_list made = changes_more setup (opening_rows setup) 1 commands command in
    let below = rows_within setup (opening_rows setup) 1 n commands (omega arith) in
    let low : revision_of case changes ≤ n = max-le (within changes_days n 0 changes (omega arith) below) (within (changes_case case) n 0 changes (omega arith) below) in
    elim (cases_Bool (made_touches case made)) [
      | inl it ↦ inl (subst (λ l. revision_of case changes < revision_of case l) (sym more) (one_more case n changes made low (made_at (λ r. n < r) (1 + n) command (omega arith) (step setup rows command).1) it))
      | inr other ↦ inr (record {
        revision = ap (revision_of case) more ∙ left_alone case changes made other;
        events = subst (KeepsEvents case rows) (sym (docket_more setup (opening_rows setup) commands command)) (step_keeps setup rows case (1 + n) (sound_docket setup commands) command other);
      })
    ]
