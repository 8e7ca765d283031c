-- The history of a motion ends in the hearing that the docket has for it.
use Rattle.std.proofs.Common.{◌≡◌, ◌<◌, ◌+◌, ◌∙◌, ◌==◌, ◌&&◌, ℕ, ℤ, Bool, true, false, not, is_some, List, [], ◌∷◌, ◌++◌, length, nat_le, get_or, fold, find, filter, All, AllPairs, Option, Some, None, option_map, option_to_list, if◌then◌else◌, append-nil, refl, sym, ap, subst, arith, inl, inr}
use Rattle.std.specs.Option.{option_map_or}
use Rattle.std.proofs.Math.Seq.{get_or-append_seam}
use Rattle.std.proofs.lemmas.Bool.Decides.{nat_tests}
use Rattle.std.proofs.lemmas.Bool.{cases_Bool, eqb-true, eq-eqb, and_parts, and_from, not_from_false, not-true, false_from_ne_true, false≢true}
use Rattle.std.proofs.lemmas.List.{get_or_append_left, length-append}
use Rattle.std.proofs.lemmas.List.Elements.{filter_passes}
use Rattle.std.proofs.lemmas.List.Sums.{fold-append}
use Rattle.hearing_slots.proofs.CallerLemmas.{find_absent, find_here, find_other, find-filter}
use Rattle.rule6.specs.declared.timeliness.Shown.{Shown}
use Rattle.rule_periods.specs.declared.grant.Request.{Request}
use Rattle.rule_periods.specs.Words.{is_order}
use Rattle.docket_rows.specs.declared.answer.Answer.TheVariants as answer
use Rattle.docket_rows.specs.declared.command.Command.{Command}
use Rattle.docket_rows.specs.declared.command.Command.TheVariants.{OpenCase, Start, FileAct, Extend, Motion, Book, MoveHearing, Cancel, Holiday, Inaccessible, Fact}
use Rattle.docket_rows.specs.declared.fact.Fact.TheVariants.{Ended, Resumed, Closed, Reopened, Ruled, Assigned, Titled, Labelled}
use Rattle.docket_rows.specs.declared.fact.Ruling.{Ruling}
use Rattle.docket_rows.specs.declared.hearing.Hearing.{Hearing}
use Rattle.docket_rows.specs.declared.hearing.Setting.{Setting}
use Rattle.docket_rows.specs.declared.refusal.Refusal.{Refusal}
use Rattle.docket_rows.specs.Words.{AreSound, CourtSetup, DocketedHearing, Rows, answered, answer_if_made, ended_answer, hearing_asked, hearing_of, if_ahead, is_hearing, opening_rows, parts_of, refusal, rows_after, rows_from, step, without_hearing}
use Rattle.docket_laws.proofs.CallerLemmas.{can_book, can_move, count_of, hearing_seen, sound_after, sound_opening, sound_step}
use Rattle.docket_selection.specs.declared.changes.change.HearingChange.{HearingChange}
use Rattle.docket_selection.specs.declared.changes.change.RowChange.{RowChange}
use Rattle.docket_selection.specs.declared.changes.history.HearingHistory.{HearingHistory}
use Rattle.docket_selection.specs.Changes.Change.{change_made}
use Rattle.docket_selection.specs.Changes.History.{changed_to, follow, followed, is_before, is_of}
use Rattle.docket_selection.specs.Changes.Laws.{HistoriesEndInTheDocket, changes_from, hearing_before, last_hearing}

-- a history ends in the hearing to which it was changed last
ends_as_set : (judge : Option ℕ) (before : Option HearingHistory) (h : Option Hearing) → last_hearing (changed_to judge before h) ≡ hearing_before judge h
ends_as_set judge None None = refl
ends_as_set judge (Some before) None = refl
ends_as_set judge None (Some h) = elim (cases_Bool (is_before judge h)) [
  | inl own ↦ rw own refl
  | inr other ↦ rw other refl
]
ends_as_set judge (Some before) (Some h) = elim (cases_Bool (is_before judge h)) [
  | inl own ↦ rw own refl
  | inr other ↦ rw other refl
]

-- the hearing of a motion in a list
abbrev found : List DocketedHearing → (case motion : ℕ) → Option Hearing
found list case motion = option_map (λ (h : DocketedHearing). h.hearing) (find (is_hearing case motion) list)

-- the hearings of a docket, one of which is set or taken out
module _ (hearings : List DocketedHearing) (of_case of_motion : ℕ) where
  abbrev left : List DocketedHearing
  left = filter (λ (h : DocketedHearing). not (is_hearing of_case of_motion h)) hearings

  none_left : All (λ (x : DocketedHearing). is_hearing of_case of_motion x ≡ false) left
  none_left k d within = not-true _ (filter_passes (λ (h : DocketedHearing). not (is_hearing of_case of_motion h)) hearings k d within)

  -- the hearings of other motions are found as before
  others_left : (case motion : ℕ) → (of_case == case && of_motion == motion) ≡ false → find (is_hearing case motion) left ≡ find (is_hearing case motion) hearings
  others_left case motion differ =
      find-filter (is_hearing case motion) (λ (h : DocketedHearing). not (is_hearing of_case of_motion h)) (λ x it. not_from_false _ (false_from_ne_true _ (λ too.
      let one = and_parts (x.case == case) (x.motion == motion) it in
      let two = and_parts (x.case == of_case) (x.motion == of_motion) too in
      let same : (of_case == case && of_motion == motion) ≡ true = and_from _ _ (eq-eqb of_case case (sym (eqb-true x.case of_case two.0) ∙ eqb-true x.case case one.0)) (eq-eqb of_motion motion (sym (eqb-true x.motion of_motion two.1) ∙ eqb-true x.motion motion one.1)) in
      false≢true (sym differ ∙ same)))) hearings

  -- none is found for a motion whose hearing is taken out
  pub after_taking : (case motion : ℕ) → found left case motion ≡ (if of_case == case && of_motion == motion then None else found hearings case motion)
  after_taking case motion = elim (cases_Bool (of_case == case && of_motion == motion)) [
    | inl own ↦
        let both = and_parts (of_case == case) (of_motion == motion) own in
        let one : of_case ≡ case = eqb-true of_case case both.0 in
        let two : of_motion ≡ motion = eqb-true of_motion motion both.1 in
        let none : found left case motion ≡ None = rw (sym one, sym two) (ap (option_map (λ (h : DocketedHearing). h.hearing)) (find_absent (is_hearing of_case of_motion) left none_left)) in
        rw own none
    | inr other ↦ rw other (ap (option_map (λ (h : DocketedHearing). h.hearing)) (others_left case motion other))
  ]

-- the hearing that is set for a motion which had none in the list
module _ (before list : List DocketedHearing) (s : Setting) where
  abbrev new : DocketedHearing
  new = record { case = s.case; motion = s.motion; hearing = hearing_asked s }

  after_setting : All (λ (x : DocketedHearing). is_hearing s.case s.motion x ≡ false) list → ((case motion : ℕ) → (s.case == case && s.motion == motion) ≡ false → find (is_hearing case motion) list ≡ find (is_hearing case motion) before) → (case motion : ℕ) → found (list ++ new ∷ []) case motion ≡ (if s.case == case && s.motion == motion then Some (hearing_asked s) else found before case motion)
  after_setting absent others case motion = elim (cases_Bool (s.case == case && s.motion == motion)) [
    | inl own ↦
        let both = and_parts (s.case == case) (s.motion == motion) own in
        let one : s.case ≡ case = eqb-true s.case case both.0 in
        let two : s.motion ≡ motion = eqb-true s.motion motion both.1 in
        let none : All (λ (x : DocketedHearing). is_hearing case motion x ≡ false) list = rw (sym one, sym two) absent in
        rw own (ap (option_map (λ (h : DocketedHearing). h.hearing)) (find_here (is_hearing case motion) list new [] none own))
    | inr other ↦ rw other (ap (option_map (λ (h : DocketedHearing). h.hearing)) (find_other (is_hearing case motion) list new [] other ∙ ap (find (is_hearing case motion)) (append-nil list) ∙ others case motion other))
  ]

  -- where each motion has one hearing at most, none of those before the last is of its motion
  none_before : AllPairs (λ (a b : DocketedHearing). is_hearing a.case a.motion b ≡ false) (list ++ new ∷ []) → All (λ (x : DocketedHearing). is_hearing s.case s.motion x ≡ false) list
  none_before once k d within =
      let x = get_or list k d in
      let long : length list < length (list ++ new ∷ []) = let e = length-append list (new ∷ []) in omega (arith, e) in
      let pair = once k (length list) d within long in
      let apart : is_hearing x.case x.motion new ≡ false = rw (get_or_append_left list (new ∷ []) d k within, get_or-append_seam list new [] d) at pair in
      false_from_ne_true _ (λ it.
      let both = and_parts (x.case == s.case) (x.motion == s.motion) it in
      let same : is_hearing x.case x.motion new ≡ true = and_from _ _ (eq-eqb s.case x.case (sym (eqb-true x.case s.case both.0))) (eq-eqb s.motion x.motion (sym (eqb-true x.motion s.motion both.1))) in
      false≢true (sym apart ∙ same))

-- the hearing that the docket has after a command about that of some motion
pub set_docketed : (setup : CourtSetup) (rows : Rows) (s : Setting) → AreSound setup rows → refusal setup (parts_of rows) (Book s) ≡ None → (case motion : ℕ) → hearing_of (rows_after rows (Book s)) case motion ≡ (if s.case == case && s.motion == motion then Some (hearing_asked s) else hearing_of rows case motion)
set_docketed setup rows s sound free case motion =
    let after = sound_after setup rows (Book s) sound free in
    after_setting rows.hearings rows.hearings s (none_before rows.hearings rows.hearings s after.hearing_once) (λ c m other. refl) case motion

pub moved_docketed : (rows : Rows) (s : Setting) (case motion : ℕ) → hearing_of (rows_after rows (MoveHearing s)) case motion ≡ (if s.case == case && s.motion == motion then Some (hearing_asked s) else hearing_of rows case motion)
moved_docketed rows s case motion =
    after_setting rows.hearings (left rows.hearings s.case s.motion) s (none_left rows.hearings s.case s.motion) (others_left rows.hearings s.case s.motion) case motion

-- what a history ends in after a change of a hearing
module _ (judge : Option ℕ) (case motion : ℕ) where
  followed_ends : (before : Option HearingHistory) (change : HearingChange) (docketed after : Option Hearing) → after ≡ (if is_of case motion change then change.hearing else docketed) → last_hearing before ≡ hearing_before judge docketed → last_hearing (followed judge case motion before change) ≡ hearing_before judge after
  followed_ends before change docketed after is ends = elim (cases_Bool (is_of case motion change)) [
    | inl own ↦
        let so : after ≡ change.hearing = rw own at is in
        rw (own, so) (ends_as_set judge before change.hearing)
    | inr other ↦
        let so : after ≡ docketed = rw other at is in
        rw (other, so) ends
  ]

  abbrev next_history : Option HearingHistory → RowChange → Option HearingHistory
  next_history before c = follow judge case motion before c.change

  -- after an extension, or an order that sets another end
  extended_ends : (row : ℕ) (before : Option HearingHistory) (of deadline : ℕ) (request : Request) (order : Bool) (end : Shown) (docketed : Option Hearing) → last_hearing before ≡ hearing_before judge docketed
      → last_hearing (fold next_history before (option_to_list (change_made row (Extend of deadline request) (ended_answer order end)))) ≡ hearing_before judge docketed
  extended_ends row before of deadline request true end docketed ends = ends
  extended_ends row before of deadline request false end docketed ends = ends

  -- after a ruling, which takes this hearing of its motion off, if any
  ruled_ends : (rows : Rows) (row : ℕ) (before : Option HearingHistory) (of of_motion : ℕ) (how : Ruling) (dated : ℤ) → last_hearing before ≡ hearing_before judge (hearing_of rows case motion) → (taken : Option Hearing)
      → last_hearing (fold next_history before (option_to_list (change_made row (Fact of (Ruled of_motion how dated)) (answer.Ruled (option_map (λ (h : Hearing). h.day) taken))))) ≡ hearing_before judge (hearing_of (record rows { hearings = if is_some taken then (without_hearing of of_motion rows).hearings else rows.hearings }) case motion)
  ruled_ends rows row before of of_motion how dated ends None = ends
  ruled_ends rows row before of of_motion how dated ends (Some h) =
      followed_ends before (record { case = of; motion = of_motion; hearing = None }) (hearing_of rows case motion) _ (after_taking rows.hearings of of_motion case motion) ends

  -- after a command that isn't refused, and after any
  made_ends : (setup : CourtSetup) (rows : Rows) (row : ℕ) (before : Option HearingHistory) → AreSound setup rows → last_hearing before ≡ hearing_before judge (hearing_of rows case motion) → (command : Command) → refusal setup (parts_of rows) command ≡ None
      → last_hearing (fold next_history before (option_to_list (change_made row command (answer_if_made setup (parts_of rows) command)))) ≡ hearing_before judge (hearing_of (rows_after rows command) case motion)
  made_ends setup rows row before sound ends (OpenCase of filed) free = ends
  made_ends setup rows row before sound ends (Start of period event second service) free = ends
  made_ends setup rows row before sound ends (FileAct of deadline filing) free = ends
  made_ends setup rows row before sound ends (Extend of deadline request) free =
      extended_ends row before of deadline request (is_order request.grant) _ (hearing_of rows case motion) ends
  made_ends setup rows row before sound ends (Motion of served need) free = ends
  made_ends setup rows row before sound ends (Book s) free =
      let few = count_of s.first s.count (can_book setup (parts_of rows) s free).fits in
      let short : nat_le s.count 96 ≡ true = grind (arith, nat_tests) in
      rw short (followed_ends before (record { case = s.case; motion = s.motion; hearing = Some (hearing_asked s) }) (hearing_of rows case motion) _ (set_docketed setup rows s sound free case motion) ends)
  made_ends setup rows row before sound ends (MoveHearing s) free =
      let few = count_of s.first s.count (can_move setup (parts_of rows) s free).fits in
      let short : nat_le s.count 96 ≡ true = grind (arith, nat_tests) in
      rw short (followed_ends before (record { case = s.case; motion = s.motion; hearing = Some (hearing_asked s) }) (hearing_of rows case motion) _ (moved_docketed rows s case motion) ends)
  made_ends setup rows row before sound ends (Cancel of_case of_motion) free =
      followed_ends before (record { case = of_case; motion = of_motion; hearing = None }) (hearing_of rows case motion) _ (after_taking rows.hearings of_case of_motion case motion) ends
  made_ends setup rows row before sound ends (Holiday day list) free = ends
  made_ends setup rows row before sound ends (Inaccessible day from to) free = ends
  made_ends setup rows row before sound ends (Fact of (Ended deadline why dated)) free = ends
  made_ends setup rows row before sound ends (Fact of (Resumed deadline day dated)) free = ends
  made_ends setup rows row before sound ends (Fact of (Closed why dated)) free = ends
  made_ends setup rows row before sound ends (Fact of (Reopened dated)) free = ends
  made_ends setup rows row before sound ends (Fact of (Ruled of_motion how dated)) free =
      let P : Option Hearing → Type 0 = λ set. last_hearing (fold next_history before (option_to_list (change_made row (Fact of (Ruled of_motion how dated)) (answer.Ruled (option_map (λ (h : Hearing). h.day) (if_ahead dated set)))))) ≡ hearing_before judge (hearing_of (rows_after rows (Fact of (Ruled of_motion how dated))) case motion) in
      subst P (sym (hearing_seen setup rows sound of of_motion)) (ruled_ends rows row before of of_motion how dated ends (if_ahead dated (hearing_of rows of of_motion)))
  made_ends setup rows row before sound ends (Fact of (Assigned to referred dated)) free = ends
  made_ends setup rows row before sound ends (Fact of Titled) free = ends
  made_ends setup rows row before sound ends (Fact of (Labelled counted number)) free = ends

  step_ends : (setup : CourtSetup) (rows : Rows) (row : ℕ) (before : Option HearingHistory) → AreSound setup rows → last_hearing before ≡ hearing_before judge (hearing_of rows case motion) → (command : Command)
      → last_hearing (fold next_history before (option_to_list (change_made row command (step setup rows command).1))) ≡ hearing_before judge (hearing_of (step setup rows command).0 case motion)
  unfolding step answered
  step_ends setup rows row before sound ends command = by_refusal (refusal setup (parts_of rows) command) refl where
    by_refusal : (r : Option Refusal) → refusal setup (parts_of rows) command ≡ r → last_hearing (fold next_history before (option_to_list (change_made row command (option_map_or answer.Refused r (answer_if_made setup (parts_of rows) command))))) ≡ hearing_before judge (hearing_of (option_map_or (λ refused. rows) r (rows_after rows command)) case motion)
    by_refusal (Some refused) is = ends
    by_refusal None free = made_ends setup rows row before sound ends command free

  -- after some commands
  ends_from : (setup : CourtSetup) (rows : Rows) (row : ℕ) (commands : List Command) (before : Option HearingHistory) → AreSound setup rows → last_hearing before ≡ hearing_before judge (hearing_of rows case motion) → last_hearing (fold next_history before (changes_from setup rows row commands)) ≡ hearing_before judge (hearing_of (rows_from setup rows commands) case motion)
  unfolding changes_from rows_from
  ends_from setup rows row [] before sound ends = ends
  ends_from setup rows row (c ∷ cs) before sound ends =
      let next = (step setup rows c).0 in
      let first = option_to_list (change_made row c (step setup rows c).1) in
      rw (fold-append next_history before first (changes_from setup next (row + 1) cs))
      (ends_from setup next (row + 1) cs (fold next_history before first) (sound_step setup rows c sound) (step_ends setup rows row before sound ends c))

pub histories_end : HistoriesEndInTheDocket
histories_end setup commands judge case motion =
    ends_from judge case motion setup (opening_rows setup) 1 commands None (sound_opening setup) refl
