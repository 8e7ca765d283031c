-- A line that is answered, and leaves nothing.
use Rattle.std.proofs.Common.{◌≡◌, ◌∙◌, refl, ℕ, Option, true, false, List, [], ◌++◌, append-nil, sym, ap, subst}
use Rattle.desk_register.specs.declared.standing.Standing.{Standing}
use Rattle.desk_session.specs.Words.{TakesLine}
use Rattle.row_forms.specs.Words.{names_of}
use Rattle.row_forms.specs.declared.line.line.Line.{Line}
use Rattle.row_forms.specs.Line.Words.{line_read}
use Rattle.desk_register.specs.declared.questions.Questions.{Questions}
use Rattle.desk_register.specs.Questions.{AsksOf, shown, shown_to}
use Rattle.desk_register.specs.Register.{StandsAt}
use Rattle.desk_register.specs.declared.cause.LineCause.{LineCause}
use Rattle.desk_register.specs.CaseLines.{lacks_field}
use Rattle.desk_register.specs.Entries.{most_clerks}
use Rattle.desk_register.specs.Rows.{asks, outcome_by, reading_at, special_at, told_or}
use Rattle.desk_register.proofs.RegisterLemmas.{read_whole}
use Rattle.docket_rows.specs.Words.{Rows, setup_of}
use Rattle.office_texts.specs.Run.Words.{Holds}
use Rattle.desk_session.specs.declared.outcome.Outcome.TheVariants.{Taken}
use Rattle.desk_numbers.specs.Words.{NumbersView, given_by, numbers_after, placed}
use Rattle.desk_register.specs.declared.register.DocketRegister.{DocketRegister}
use Rattle.row_forms.specs.declared.row.Work.{Work}
use Rattle.row_forms.specs.declared.row.Work.TheVariants.{Command, Query}
use Rattle.desk_register.specs.Run.{Run, docketed_with, numbers_with, reply_by_places, run_by}

-- what a line is shown that says this, where this is wrong beside
abbrev pub shown_with : Standing → (kept : List (List ℕ)) → (bytes : List ℕ) → (special : Option LineCause) → Line → List ℕ
shown_with under kept bytes special said = told_or under kept bytes special (shown_to under kept bytes said)

pub line_asked : (under : Standing) (questions : Questions) (kept : List (List ℕ)) (bytes : List ℕ) (batch : List (List ℕ)) (text : List ℕ) (said : Line) → line_read most_clerks (names_of under.court) (reading_at under kept bytes).text ≡ said
    → StandsAt under questions.register kept → (text_after : List ℕ) → text_after ≡ text ++ shown_with under kept bytes (special_at under kept bytes) said
    → TakesLine (λ k l. []) (shown under) (AsksOf under questions) kept bytes batch batch text text_after
unfolding shown
line_asked under questions kept bytes batch text said is stands text_after told = record {
  stands = subst (AsksOf under questions) (sym (append-nil kept)) stands;
  left = sym (append-nil batch);
  told = told ∙ ap (λ (l : Line). text ++ shown_with under kept bytes (special_at under kept bytes) l) (sym is);
}

-- a line that lacks no third field, no fourth and no fifth
pub shown_plain : (under : Standing) (kept : List (List ℕ)) (bytes text : List ℕ) (said : Line) → line_read most_clerks (names_of under.court) (reading_at under kept bytes).text ≡ said → lacks_field 3 said ≡ false → lacks_field 4 said ≡ false → lacks_field 5 said ≡ false
    → text ++ shown_to under kept bytes said ≡ text ++ shown_with under kept bytes (special_at under kept bytes) said
shown_plain under kept bytes text said is third fourth fifth = ap (λ (special : Option LineCause). text ++ shown_with under kept bytes special said) (sym (read_whole under kept bytes said is third fourth fifth))

-- a question gives no number
pub question_moves_nothing : (under : Standing) (run : Run) (number : ℕ) (asked : Work) → asks asked ≡ true → (numbers_with under run number asked).moved ≡ run.numbers.moved
unfolding given_by numbers_after
question_moves_nothing under run number (Command command) question = cc question
question_moves_nothing under run number (Query query) question = refl

-- and dockets nothing
question_dockets_nothing : (under : Standing) (run : Run) (asked : Work) → asks asked ≡ true → docketed_with under run asked ≡ run.docketed
unfolding placed
question_dockets_nothing under run (Command command) question = cc question
question_dockets_nothing under run (Query query) question = refl

-- so the register after it is as it was
pub stands_asked : (under : Standing) (before register : DocketRegister) (kept : List (List ℕ)) (asked : Work) → StandsAt under before kept → asks asked ≡ true → Holds (setup_of under.court) register.docket (docketed_with under (run_by under kept) asked)
    → register.numbers ≡ before.numbers → register.cases ≡ before.cases → register.called ≡ before.called → register.number ≡ before.number → register.count ≡ before.count → StandsAt under register kept
stands_asked under before register kept asked stands question holds numbers cases called number count = record {
  docket = subst (Holds (setup_of under.court) register.docket) (question_dockets_nothing under (run_by under kept) asked question) holds;
  numbers = numbers ∙ stands.numbers;
  cases = cases ∙ stands.cases;
  called = called ∙ stands.called;
  number = number ∙ stands.number;
  count = count ∙ stands.count;
  begun = stands.begun;
  few = stands.few;
}

-- it is taken, whatever it is answered
pub question_taken : (under : Standing) (docketed : Rows) (numbers : NumbersView) (asked : Work) → asks asked ≡ true → outcome_by (reply_by_places under docketed numbers asked) ≡ Taken
unfolding placed
question_taken under docketed numbers (Command command) question = cc question
question_taken under docketed numbers (Query query) question = refl
