-- Histories, after one entry more and after what lines leave.
use Rattle.std.proofs.Common.{◌≡◌, ◌∙◌, ◌<◌, ℕ, Bool, true, false, cond, List, [], ◌∷◌, ◌++◌, Option, Some, None, length, length-append, refl, sym, ap, subst, append_assoc, append-nil, arith}
use Rattle.court_days.specs.Words.{CourtView}
use Rattle.row_forms.specs.declared.line.line.Line.{Line}
use Rattle.row_forms.specs.declared.line.line.Line.TheVariants as line
use Rattle.row_forms.specs.Words.{names_of}
use Rattle.row_forms.specs.Line.Words.{fields_read, line_read}
use Rattle.desk_session.specs.Taken.{left_by}
use Rattle.desk_numbers.specs.Strikes.Words.{CorrectionsView}
use Rattle.desk_register.specs.declared.standing.Standing.{Standing}
use Rattle.desk_register.specs.Entries.{Note, file_with, kept_as, kept_in, most_clerks, note_in, row_entries, standing_file, struck_by, struck_in}
use Rattle.desk_register.specs.History.{AllFollow, CanBe, FollowsAs, IsHistory, MayFollow, SaysCourt, SaysNumbers, StandsAfter}
use Rattle.desk_register.specs.Laws.{WhatIsLeftIsHistory}
use Rattle.case_numbers.specs.Words.{NameView, after_name, name_before}
use Rattle.desk_register.specs.Rows.{follows, has_room, kept_leaves, leaves, left_again, left_of, plain_leaves, reading_at, with_name, within}
use Rattle.desk_register.specs.Run.{corrections_then}
use Rattle.desk_register.proofs.EntryLemmas.{left_follows}
use Rattle.desk_register.proofs.ListLemmas.{standing_file-more, struck_in-more}
use Rattle.desk_register.proofs.SaidLemmas.{kept_in-more, says_given}

AllFollow-append : (kept some more : List (List ℕ)) → AllFollow kept some → AllFollow (kept ++ some) more → AllFollow kept (some ++ more)
unfolding AllFollow
AllFollow-append kept [] more first second = subst (λ (l : List (List ℕ)). AllFollow l more) (append-nil kept) second
AllFollow-append kept (entry ∷ some) more first second =
    (first.0, AllFollow-append (kept ++ entry ∷ []) some more first.1 (subst (λ (l : List (List ℕ)). AllFollow l more) (sym (append_assoc kept (entry ∷ []) some)) second))

one_follows : (kept : List (List ℕ)) (entry : List ℕ) → MayFollow kept entry → AllFollow kept (entry ∷ [])
unfolding AllFollow
one_follows kept entry may = (may, tt)

pub history_more : (kept : List (List ℕ)) (entry : List ℕ) → IsHistory kept → MayFollow kept entry → IsHistory (kept ++ entry ∷ [])
history_more [] entry h may = absurd h
history_more (file ∷ later) entry h may = (h.0, AllFollow-append (file ∷ []) later (entry ∷ []) h.1 (one_follows (file ∷ later) entry may))

history_begins : (kept : List (List ℕ)) → IsHistory kept → 0 < length kept
history_begins [] h = absurd h
history_begins (file ∷ later) h = omega arith

pub first_history : (first : List ℕ) (court : CourtView) → SaysCourt first court → IsHistory (first ∷ [])
unfolding AllFollow
first_history first court says = ((court, says), tt)

-- a row that follows under what stands
pub row_follows : (under : Standing) (kept : List (List ℕ)) (entry : List ℕ) → note_in entry ≡ None → StandsAfter kept under → follows under kept entry → MayFollow kept entry
row_follows under kept entry none stands may = subst (λ (n : Option Note). FollowsAs n kept entry) (sym none) (under, stands, may)

-- a note that can be made and says what rows gave
pub note_follows : (under : Standing) (kept : List (List ℕ)) (entry : List ℕ) (note : Note) → note_in entry ≡ Some note → CanBe note kept → StandsAfter kept under → SaysNumbers under kept entry → MayFollow kept entry
note_follows under kept entry note some can stands says = subst (λ (n : Option Note). FollowsAs n kept entry) (sym some) (can, under, stands, says)

-- what stands after a row is what stood
pub stands_after_row : (under : Standing) (kept : List (List ℕ)) (entry : List ℕ) → 0 < length kept → note_in entry ≡ None → StandsAfter kept under → StandsAfter (kept ++ entry ∷ []) under
stands_after_row under kept entry begun none stands = record {
  court = subst (λ (f : List ℕ). SaysCourt f under.court) (sym (standing_file-more kept entry begun ∙ ap (file_with (standing_file kept)) none)) stands.court;
  struck = stands.struck ∙ sym (struck_in-more kept entry begun ∙ ap (struck_by (struck_in kept)) none);
  numbers = stands.numbers ∙ sym (kept_in-more kept entry begun ∙ ap (λ (n : Option Note). kept_as n (length (row_entries kept)) (kept_in kept) entry) none);
}

-- What stands after a note that says what rows gave: they keep it.
pub stands_after_note : (under then : Standing) (kept : List (List ℕ)) (entry : List ℕ) (note : Note) → 0 < length kept → note_in entry ≡ Some note → StandsAfter kept under → SaysNumbers under kept entry
    → SaysCourt (file_with (standing_file kept) (Some note)) then.court → then.corrections ≡ corrections_then under kept (struck_by under.corrections.struck (Some note)) → StandsAfter (kept ++ entry ∷ []) then
stands_after_note under then kept entry note begun some stands says court same = record {
  court = subst (λ (f : List ℕ). SaysCourt f then.court) (sym (standing_file-more kept entry begun ∙ ap (file_with (standing_file kept)) some)) court;
  struck = ap (λ (c : CorrectionsView). c.struck) same ∙ ap (λ (s : List ℕ). struck_by s (Some note)) stands.struck ∙ sym (struck_in-more kept entry begun ∙ ap (struck_by (struck_in kept)) some);
  numbers = ap (λ (c : CorrectionsView). c.kept) same ∙ sym (kept_in-more kept entry begun ∙ ap (λ (n : Option Note). kept_as n (length (row_entries kept)) (kept_in kept) entry) some ∙ says_given under kept entry stands.numbers says);
}

-- a line leaves one entry at most
one_of : (under : Standing) (kept : List (List ℕ)) (name : Option NameView) (fields : List (List ℕ)) (said : Line) (entry other : List ℕ) (more : List (List ℕ)) → with_name name (left_of under kept fields said) ≡ entry ∷ other ∷ more → ⊥
one_of under kept name fields line.Blank entry other more h = cc h
one_of under kept name fields (line.Fault cause) entry other more h = cc h
one_of under kept name fields (line.Row row) entry other more h = cc h

one_at_most : (under : Standing) (kept : List (List ℕ)) (bytes entry other : List ℕ) (more : List (List ℕ)) → leaves under kept bytes ≡ entry ∷ other ∷ more → ⊥
unfolding leaves plain_leaves
one_at_most under kept bytes entry other more h = by (has_room kept) h
  where
    said : Line
    said = within kept (line_read most_clerks (names_of under.court) (reading_at under kept bytes).text)

    by : (room : Bool) → with_name (reading_at under kept bytes).name (cond room (left_of under kept (fields_read (reading_at under kept bytes).text) said) []) ≡ entry ∷ other ∷ more → ⊥
    by true h = one_of under kept (reading_at under kept bytes).name (fields_read (reading_at under kept bytes).text) said entry other more h
    by false h = cc h

-- and so does an entry whose row is entered again
pub one_again : (under : Standing) (kept : List (List ℕ)) (entry made other : List ℕ) (more : List (List ℕ)) → left_again under kept entry ≡ made ∷ other ∷ more → ⊥
unfolding kept_leaves
one_again under kept entry made other more h = one_of under kept (name_before entry) (fields_read (after_name entry)) (line_read most_clerks (names_of under.court) (after_name entry)) made other more h

-- entries after which this stands, and which are a history if those before them were
abbrev GoesOn : Standing → (before kept : List (List ℕ)) → Type 0
GoesOn under before kept = (0 < length kept) × StandsAfter kept under × (IsHistory before → IsHistory kept)

row_goes_on : (under : Standing) (before kept : List (List ℕ)) (entry : List ℕ) → GoesOn under before kept → note_in entry ≡ None → follows under kept entry → GoesOn under before (kept ++ entry ∷ [])
row_goes_on under before kept entry so none may = (
  omega (arith, so.0, length-append kept (entry ∷ [])),
  stands_after_row under kept entry so.0 none so.1,
  λ history. history_more kept entry (so.2 history) (row_follows under kept entry none so.1 may),
)

line_goes_on : (under : Standing) (before kept : List (List ℕ)) (bytes : List ℕ) → GoesOn under before kept → GoesOn under before (kept ++ leaves under kept bytes)
line_goes_on under before kept bytes so = by (leaves under kept bytes) refl
  where
    by : (left : List (List ℕ)) → leaves under kept bytes ≡ left → GoesOn under before (kept ++ left)
    by [] is = subst (GoesOn under before) (sym (append-nil kept)) so
    by (entry ∷ []) is = let (none, may) = left_follows under kept bytes entry is in row_goes_on under before kept entry so none may
    by (entry ∷ other ∷ more) is = absurd (one_at_most under kept bytes entry other more is)

lines_go_on : (under : Standing) (before kept lines : List (List ℕ)) → GoesOn under before kept → GoesOn under before (kept ++ left_by (leaves under) kept lines)
unfolding left_by
lines_go_on under before kept [] so = subst (GoesOn under before) (sym (append-nil kept)) so
lines_go_on under before kept (bytes ∷ lines) so =
    subst (GoesOn under before) (append_assoc kept (leaves under kept bytes) (left_by (leaves under) (kept ++ leaves under kept bytes) lines))
    (lines_go_on under before (kept ++ leaves under kept bytes) lines (line_goes_on under before kept bytes so))

-- the law
pub left_history : WhatIsLeftIsHistory
left_history under kept lines begun stands = let all = lines_go_on under kept kept lines (begun, stands, λ history. history) in (all.1, all.2)
