-- What careful lines leave.
use Rattle.std.proofs.Common.{◌≡◌, ◌∙◌, ◌⊎◌, inl, inr, ℕ, ℤ, Bool, true, false, List, [], ◌∷◌, ◌++◌, Option, Some, None, length, refl, sym, ap, subst, append-nil}
use Rattle.std.specs.Prelude.{nat_lt}
use Rattle.std.specs.List.{flat_map}
use Rattle.case_numbers.specs.declared.names.NamedCase.{NamedCase}
use Rattle.case_numbers.specs.Words.{NameView}
use Rattle.docket_rows.specs.declared.command.Command.{Command as CommandOf}
use Rattle.docket_rows.specs.declared.refusal.Refusal.{Refusal}
use Rattle.docket_rows.specs.Words.{Parts, parts_of, refusal, setup_of}
use Rattle.row_forms.specs.declared.row.Row.{Row}
use Rattle.row_forms.specs.declared.line.line.Line.{Line}
use Rattle.row_forms.specs.declared.line.line.Line.TheVariants as says
use Rattle.desk_session.specs.Words.{TakesLine, TakesLines, after_mark, left_by, or_whole, told_to}
use Rattle.desk_session.proofs.CallerLemmas.{left_by-append, one_left, one_told}
use Rattle.desk_register.specs.Words.{IsHistory, IsReadyAt, StandsAfter, cases_of, docketed_by, leaves, next_number, run_by, told}
use Rattle.desk_register.specs.declared.register.DocketRegister.{DocketRegister}
use Rattle.desk_register.specs.declared.standing.Standing.{Standing}
use Rattle.court_days.specs.Words.{CourtView}
use Rattle.desk_numbers.specs.declared.moved.Moved.{Moved}
use Rattle.desk_numbers.specs.Words.{placed_command}
use Rattle.desk_register.proofs.CallerLemmas.{left_history}
use Rattle.desk_warnings.specs.declared.register.HeldBack.{HeldBack}
use Rattle.desk_warnings.specs.declared.register.HeldBack.TheVariants.{Nothing, Warned}
use Rattle.desk_warnings.specs.Careful.{careful_answers, careful_leaves, careful_outcome, held_for, held_text, held_unless, left_of_taken, line_for, taken_at, told_of_taken, came_of_taken, whole_answers, whole_leaves, whole_outcome, whole_taken}
use Rattle.desk_warnings.specs.Laws.{CarefulIsHistory, LineIsKeptWhole, NothingIsHeldBack, RefusedAreHeld, WarningsKeepNothing, lines_taken, with_taken}
use Rattle.desk_warnings.specs.Rows.{against_one, against_row, against_rows, against_said, labels_new, line_rows, name_at, said_at, taken_if, warnings_at, warnings_said}
use Rattle.desk_warnings.specs.Warnings.{if_refused, warnings_of}
use Rattle.desk_warnings.proofs.RowLemmas.{against_plain, one_came}

-- lines, by what is taken of the first
one_line : (under : Standing) (kept : List (List ℕ)) (taken : Option (List (List ℕ))) (later taken_later : List (List ℕ))
    → later ≡ left_by (leaves under) (kept ++ left_of_taken under kept taken) taken_later
    → left_of_taken under kept taken ++ later ≡ left_by (leaves under) kept (with_taken taken taken_later)
one_line under kept None later taken_later is = is ∙ ap (λ (k : List (List ℕ)). left_by (leaves under) k taken_later) (append-nil kept)
one_line under kept (Some rows) later taken_later is = ap (λ (l : List (List ℕ)). left_by (leaves under) kept rows ++ l) is ∙ sym (left_by-append (leaves under) (told under) kept rows taken_later)

pub keep_nothing : WarningsKeepNothing
unfolding left_by lines_taken
keep_nothing under held kept [] = refl
keep_nothing under held kept (line ∷ lines) =
    one_line under kept (taken_at under held kept line) _ _ (keep_nothing under held (kept ++ careful_leaves under held kept line) lines)

pub careful_history : CarefulIsHistory
careful_history under held kept lines begun stands =
    subst (λ (l : List (List ℕ)). StandsAfter (kept ++ l) under × (IsHistory kept → IsHistory (kept ++ l))) (sym (keep_nothing under held kept lines))
    (left_history under kept (lines_taken under held kept lines) begun stands)

-- a line leaves nothing, or what all its rows leave
whole_or_none : (under : Standing) (kept rows : List (List ℕ)) (against : List ℕ)
    → (left_of_taken under kept (taken_if rows against) ≡ []) ⊎ (left_of_taken under kept (taken_if rows against) ≡ left_by (leaves under) kept rows)
whole_or_none under kept rows [] = inr refl
whole_or_none under kept rows (byte ∷ bytes) = inl refl

pub kept_whole : LineIsKeptWhole
kept_whole under held kept line = whole_or_none under kept (line_rows (line_for held line)) (against_rows under (held_for held line) kept (line_rows (line_for held line)))

-- what a careful register makes of a line without its mark
module _ (under : Standing) (held : HeldBack) (register : DocketRegister) (kept : List (List ℕ)) (line : List ℕ) (batch batch_after : List (List ℕ)) (text text_after : List ℕ) where
  -- its rows are taken as without warnings
  pub as_taken : whole_taken under held kept line ≡ Some (line_rows line)
      → TakesLines (leaves under) (told under) (IsReadyAt under register) kept (line_rows line) batch batch_after text text_after
      → TakesLine (whole_leaves under held) (whole_answers under held) (IsReadyAt under register) kept line batch batch_after text text_after
  as_taken is takes =
      let left : whole_leaves under held kept line ≡ left_by (leaves under) kept (line_rows line) = ap (left_of_taken under kept) is in
      let same : whole_answers under held kept line ≡ told_to (leaves under) (told under) kept (line_rows line) = ap (told_of_taken under held kept (against_rows under held kept (line_rows line))) is in
      record {
        stands = subst (λ (l : List (List ℕ)). IsReadyAt under register (kept ++ l)) (sym left) takes.stands;
        left = takes.left ∙ ap (λ (l : List (List ℕ)). batch ++ l) (sym left);
        told = takes.told ∙ ap (λ (l : List ℕ). text ++ l) (sym same);
      }

  -- a line that is held back changes nothing
  pub held_back : whole_taken under held kept line ≡ None → IsReadyAt under register kept → batch_after ≡ batch → text_after ≡ text ++ held_text held (next_number kept) (against_rows under held kept (line_rows line))
      → TakesLine (whole_leaves under held) (whole_answers under held) (IsReadyAt under register) kept line batch batch_after text text_after
  held_back is stands same added =
      let left : whole_leaves under held kept line ≡ [] = ap (left_of_taken under kept) is in
      record {
        stands = subst (IsReadyAt under register) (sym (ap (λ (l : List (List ℕ)). kept ++ l) left ∙ append-nil kept)) stands;
        left = same ∙ sym (append-nil batch) ∙ ap (λ (l : List (List ℕ)). batch ++ l) (sym left);
        told = added ∙ ap (λ (t : Option (List (List ℕ))). text ++ told_of_taken under held kept (against_rows under held kept (line_rows line)) t) (sym is);
      }

-- a line that may have a mark is taken as the line without it, of which this is held back
module _ (under : Standing) (held held_then : HeldBack) (register : DocketRegister) (kept : List (List ℕ)) (line rest : List ℕ) (held_is : held_then ≡ held_for held line) (rest_is : rest ≡ line_for held line) where
  pub as_looked : (batch batch_after : List (List ℕ)) (text text_after : List ℕ)
      → TakesLine (whole_leaves under held_then) (whole_answers under held_then) (IsReadyAt under register) kept rest batch batch_after text text_after
      → TakesLine (careful_leaves under held) (careful_answers under held) (IsReadyAt under register) kept line batch batch_after text text_after
  as_looked batch batch_after text text_after takes =
      let left : whole_leaves under held_then kept rest ≡ careful_leaves under held kept line =
      ap (λ (h : HeldBack). whole_leaves under h kept rest) held_is ∙ ap (whole_leaves under (held_for held line) kept) rest_is in
      let same : whole_answers under held_then kept rest ≡ careful_answers under held kept line =
      ap (λ (h : HeldBack). whole_answers under h kept rest) held_is ∙ ap (whole_answers under (held_for held line) kept) rest_is in
      record {
        stands = subst (λ (l : List (List ℕ)). IsReadyAt under register (kept ++ l)) left takes.stands;
        left = takes.left ∙ ap (λ (l : List (List ℕ)). batch ++ l) left;
        told = takes.told ∙ ap (λ (l : List ℕ). text ++ l) same;
      }

  pub came_looked : whole_outcome under held_then kept rest ≡ careful_outcome under held kept line
  came_looked = ap (λ (h : HeldBack). whole_outcome under h kept rest) held_is ∙ ap (whole_outcome under (held_for held line) kept) rest_is

-- which rows are taken
pub all_taken : (rows : List (List ℕ)) (against : List ℕ) → against ≡ [] → taken_if rows against ≡ Some rows
all_taken rows against none = ap (taken_if rows) none

pub none_taken : (rows : List (List ℕ)) (against : List ℕ) → (against ≡ [] → ⊥) → taken_if rows against ≡ None
none_taken rows [] some = absurd (some refl)
none_taken rows (byte ∷ bytes) some = refl

-- a command that is refused draws a warning
refused_warned : (court : CourtView) (moved : List Moved) (named : List NamedCase) (parts : Parts) (held : HeldBack) (name : Option NameView) (asked command : CommandOf) (refused : Refusal) → refusal (setup_of court) parts command ≡ Some refused → warnings_of court moved named parts held name asked command ≡ [] → ⊥
unfolding warnings_of if_refused
refused_warned court moved named parts held name asked command refused is none = absurd cc (rw is at none)

-- nothing speaks against rows only where nothing speaks against each
front_nil : (a b : List ℕ) → a ++ b ≡ [] → a ≡ []
front_nil [] b none = refl
front_nil (x ∷ a) b none = cc none

back_nil : (a b : List ℕ) → a ++ b ≡ [] → b ≡ []
back_nil [] b none = none
back_nil (x ∷ a) b none = cc none

each_nil : (said : List ℕ → List ℕ) (before later : List (List ℕ)) (row : List ℕ) → flat_map said (before ++ row ∷ later) ≡ [] → said row ≡ []
each_nil said [] later row none = front_nil (said row) (flat_map said later) none
each_nil said (other ∷ before) later row none = each_nil said before later row (back_nil (said other) (flat_map said (before ++ row ∷ later)) none)

-- what a row is warned of speaks against it, whether it is alone or one of several
module _ (under : Standing) (today : Option ℤ) (kept : List (List ℕ)) (bytes : List ℕ) (some : warnings_at under (Warned today) kept bytes ≡ [] → ⊥) where
  one_against : (several : Bool) → against_row under (Warned today) kept bytes ≡ warnings_at under (Warned today) kept bytes → against_one under (Warned today) kept several bytes ≡ [] → ⊥
  one_against true same none = some (sym same ∙ none)
  one_against false same none = some none

row_against : (under : Standing) (held : HeldBack) (kept : List (List ℕ)) (name : Option NameView) (said : Line) (row : Row) → said ≡ says.Row row → against_said under held kept name said ≡ warnings_said under held kept name said
row_against under held kept name said row is = rw is refl

pub refused_held : RefusedAreHeld
unfolding warnings_at
refused_held under today kept line before later bytes row asked refused rows is_judged said_is work is unmarked =
    let held : held_for (Warned today) line ≡ Warned today = ap (held_unless (Warned today)) unmarked in
    let whole : line_for (Warned today) line ≡ line = ap (or_whole line) unmarked in
    let some : warnings_at under (Warned today) kept bytes ≡ [] → ⊥ =
    λ none. refused_warned under.court (run_by under kept).numbers.moved (cases_of under kept).named (parts_of (docketed_by under kept)) (Warned today) (name_at under kept bytes) asked (placed_command (run_by under kept).numbers.moved asked) refused is (rw (said_is, work) at none) in
    let same : against_row under (Warned today) kept bytes ≡ warnings_at under (Warned today) kept bytes = sym (against_plain under (Warned today) kept bytes is_judged) ∙ row_against under (Warned today) kept (name_at under kept bytes) (said_at under kept bytes) row said_is in
    let judged = nat_lt 1 (length (line_rows line)) in
    ap (λ (h : HeldBack). whole_taken under h kept (line_for (Warned today) line)) held
    ∙ ap (whole_taken under (Warned today) kept) whole
    ∙ none_taken (line_rows line) (against_rows under (Warned today) kept (line_rows line))
    (λ none. one_against under today kept bytes some judged same (each_nil (against_one under (Warned today) kept judged) before later bytes (ap (flat_map (against_one under (Warned today) kept judged)) (sym rows) ∙ none)))

-- a line of one row is taken as without warnings, where nothing is held back
one_row : (under : Standing) (kept : List (List ℕ)) (line : List ℕ) → line_rows line ≡ line ∷ [] → taken_at under Nothing kept line ≡ Some (line ∷ [])
one_row under kept line is = subst (λ (rows : List (List ℕ)). taken_if rows (against_rows under Nothing kept rows) ≡ Some (line ∷ [])) (sym is) refl

pub nothing_held : NothingIsHeldBack
nothing_held under kept line is = (
  ap (left_of_taken under kept) (one_row under kept line is) ∙ one_left (leaves under) (told under) kept line,
  ap (told_of_taken under Nothing kept (against_rows under Nothing kept (line_rows line))) (one_row under kept line is) ∙ one_told (leaves under) (told under) kept line,
  ap (came_of_taken under Nothing kept) (one_row under kept line is) ∙ one_came under kept line,
)
