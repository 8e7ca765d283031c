-- What rows call cases, deadlines and motions. The docket keeps none of these texts: a row that is done says one, and of those that say what
-- one thing is called the last counts.
use Rattle.std.specs.Prelude.{◌≡◌, ℕ, ◌+◌, ◌-◌, ◌&&◌, Bool, true, false, List, [], ◌∷◌, ◌++◌, Option, Some, None, fold, length, nat_eq, replicate, slice_index_or, slice_set, if◌then◌else◌}
use Rattle.docket_rows.specs.declared.command.Command.TheVariants as command
use Rattle.docket_rows.specs.declared.command.Counted.{Counted}
use Rattle.docket_rows.specs.declared.fact.Fact.TheVariants.{Titled, Labelled}
use Rattle.docket_rows.specs.Words.{are_alike}
use Rattle.row_forms.specs.declared.row.Work.{Work}
use Rattle.row_forms.specs.declared.row.Work.TheVariants as work
use Rattle.row_forms.specs.Words.{column}

-- a text, and what it calls so: a case, or a deadline or a motion of it by its number
pub record CalledView : Type 0 where
  pub case : ℕ
  pub subject : Option (Counted × ℕ)
  pub text : List ℕ

-- what a row that asks for this and has these fields calls something, if it does
abbrev pub calls : Work → (fields : List (List ℕ)) → Option CalledView
calls (work.Command (command.Fact case Titled)) fields = Some (record { case = case; subject = None; text = column fields 4 })
calls (work.Command (command.Fact case (Labelled counted number))) fields = Some (record { case = case; subject = Some (counted, number); text = column fields 6 })
calls asked fields = None

-- the texts so far, by the number of the case, counted from 0; those of a case are in the order of the rows
abbrev pub TextsView : Type 0
TextsView = List (List CalledView)

-- with a list for each of this many numbers
abbrev pub lengthened : TextsView → (count : ℕ) → TextsView
lengthened texts count = texts ++ replicate (count - length texts) []

-- with one more in the list of its case
abbrev pub put : TextsView → CalledView → TextsView
put texts c = slice_set texts c.case (slice_index_or texts c.case [] ++ c ∷ [])

-- with one text more
unfoldable pub with_called : TextsView → CalledView → TextsView
with_called texts c = put (lengthened texts (c.case + 1)) c

-- both are of the case itself, or of one deadline of it, or of one motion
abbrev pub same_subject : Option (Counted × ℕ) → Option (Counted × ℕ) → Bool
same_subject None None = true
same_subject None (Some other) = false
same_subject (Some one) None = false
same_subject (Some one) (Some other) = are_alike one.0 other.0 && nat_eq one.1 other.1

-- what it is called, after one more text of its case
abbrev pub text_then : Option (Counted × ℕ) → (before : List ℕ) → CalledView → List ℕ
text_then subject before c = if same_subject c.subject subject then c.text else before

-- what it is called by these: of those that call it something the last counts; empty where none does
unfoldable pub text_among : List CalledView → Option (Counted × ℕ) → List ℕ
text_among texts subject = fold (text_then subject) [] texts

-- what a case is called, or a deadline or a motion of it; empty where no row says it
abbrev pub text_of : TextsView → (case : ℕ) → Option (Counted × ℕ) → List ℕ
text_of texts case subject = text_among (slice_index_or texts case []) subject

abbrev pub title_of : TextsView → (case : ℕ) → List ℕ
title_of texts case = text_of texts case None

abbrev pub label_of : TextsView → (case : ℕ) → Counted → (number : ℕ) → List ℕ
label_of texts case counted number = text_of texts case (Some (counted, number))

-- What was said last is what it is called; and what anything else is called stays as it was.
pub record TheLastTextCounts : Type 0 where
  pub last : (texts : TextsView) (c : CalledView) → text_of (with_called texts c) c.case c.subject ≡ c.text
  pub others : (texts : TextsView) (c : CalledView) (subject : Option (Counted × ℕ)) → same_subject c.subject subject ≡ false → text_of (with_called texts c) c.case subject ≡ text_of texts c.case subject
  pub other_cases : (texts : TextsView) (c : CalledView) (case : ℕ) (subject : Option (Counted × ℕ)) → (case ≡ c.case → ⊥) → text_of (with_called texts c) case subject ≡ text_of texts case subject
