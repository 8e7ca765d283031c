-- Rows that are kept together, or not at all.
use Rattle.std.specs.Prelude.{◌≡◌, ◌≢◌, ◌⊎◌, ℕ, Bool, List, [], ◌∷◌, ◌++◌, codes, length, None, Option, Some, if◌then◌else◌}
use Rattle.std.specs.Fmt.{decimal}
use Rattle.std.specs.List.{flat_map}
use Rattle.std.specs.Io.KnownBytes.{Appends}
use Rattle.desk_journal.specs.Words.{StandsFor}
use Rattle.desk_session.specs.declared.fault.SessionFault.{SessionFault}
use Rattle.desk_session.specs.declared.fault.SessionFault.TheVariants as session
use Rattle.desk_session.specs.Words.{IsAllOrNone, Stopped, first_stopped, left_by, lines_of, numbered_lines, told_to, unfinished_of, unmarked_lines}
use Rattle.desk_register.specs.declared.standing.Standing.{Standing}
use Rattle.desk_entries.specs.Words.{FaultyLine, IsHistory, StandsAfter, faults_of, line_cause_text}
use Rattle.desk_warnings.specs.declared.register.HeldBack.{HeldBack}
use Rattle.desk_warnings.specs.Words.{are_marked, careful_answers, careful_leaves, careful_outcome}
use Rattle.desk_program.specs.declared.faults.together.TogetherFault.{TogetherFault}
use Rattle.desk_program.specs.declared.faults.together.TogetherFault.TheVariants as together
use Rattle.desk_program.specs.FaultWords.{cause_words}

-- what is written of a line that has a fault: its number, the fault, and in words what was found and what is expected
abbrev pub line_fault_text : FaultyLine → List ℕ
line_fault_text fault = codes "line " ++ decimal fault.number ++ codes " fault " ++ line_cause_text fault.cause ++ codes ": " ++ cause_words fault.cause fault.line ++ 10 ∷ []

abbrev pub line_faults_text : List FaultyLine → List ℕ
line_faults_text faults = flat_map line_fault_text faults

-- what is written of a line at which the list stops: its number, and the answer that it would have
abbrev pub stopped_text : Stopped → List ℕ
stopped_text line = codes "line " ++ decimal line.number ++ codes " would be answered: " ++ line.answer

-- why the list stops at a line, as the desk says it
abbrev pub stopped_fault : Stopped → TogetherFault
stopped_fault line = if line.held then together.Held line.number else together.Refused line.number

-- the faults of an input's lines, each without its mark where lines may be marked
abbrev pub faults_in : Standing → HeldBack → (kept : List (List ℕ)) → (input : List ℕ) → List FaultyLine
faults_in under held kept input = faults_of under kept (unmarked_lines (are_marked held) (numbered_lines input))

-- the line at which the lines of an input stop, each decided after what those before it leave: the first that is held back, or that
-- asks for a command that is refused, unless commands that are refused are kept too
abbrev pub stop_of : Standing → HeldBack → (keep_refused : Bool) → (kept : List (List ℕ)) → (input : List ℕ) → Option Stopped
stop_of under held keep_refused kept input =
    first_stopped (λ before line. careful_leaves under held before line) (λ before line. careful_answers under held before line) (λ before line. careful_outcome under held before line) keep_refused kept (numbered_lines input)

-- No line of the input has a fault, the last has an end, and the list stops at no line. All rows are kept after the entries,
-- and all are answered.
pub record KeepsTogether (under : Standing) (held : HeldBack) (keep_refused : Bool) (kept : List (List ℕ)) (input : List ℕ) (before after : Option (List ℕ)) (Keeps : List (List ℕ) → Type 0) : Type 0 where
  pub faultless : faults_in under held kept input ≡ []
  pub finished : unfinished_of input ≡ []
  pub unstopped : stop_of under held keep_refused kept input ≡ None
  pub keeps : Keeps (kept ++ left_by (careful_leaves under held) kept (lines_of input))
  pub told : Appends before after (told_to (careful_leaves under held) (careful_answers under held) kept (lines_of input))

-- Nothing is kept, since the list stops at the line of this number, which is held back, or else refused: it is the first, and its
-- answer is written.
pub record StopsList (under : Standing) (held : HeldBack) (keep_refused : Bool) (kept : List (List ℕ)) (input : List ℕ) (number : ℕ) (is_held : Bool) (before after : Option (List ℕ)) : Type 0 where
  pub line : Stopped
  pub first : stop_of under held keep_refused kept input ≡ Some line
  pub number_is : number ≡ line.number
  pub held_is : is_held ≡ line.held
  pub written : Appends before after (stopped_text line)

-- Nothing is kept, since this many lines have a fault, which are written.
pub record RefusesLines (under : Standing) (held : HeldBack) (kept : List (List ℕ)) (input : List ℕ) (count : ℕ) (before after : Option (List ℕ)) : Type 0 where
  pub listed : Appends before after (line_faults_text (faults_in under held kept input))
  pub count_is : count ≡ length (faults_in under held kept input)
  pub some : faults_in under held kept input ≢ []

-- a line of the input has a fault, or the last has no end
abbrev pub IsAtFault : Standing → HeldBack → (kept : List (List ℕ)) → (input : List ℕ) → Type 0
IsAtFault under held kept input = (faults_in under held kept input ≢ []) ⊎ (unfinished_of input ≢ [])

-- Whatever a crash leaves stands for the entries before, or for these and all rows. After either the same stands, and it is a history if
-- the entries before were, so the next opening takes it.
pub record IsDocketAllOrNone (under : Standing) (held : HeldBack) (kept lines : List (List ℕ)) (MayLeave : List ℕ → Type 0) : Type 0 where
  pub all_or_none : IsAllOrNone (careful_leaves under held) kept lines MayLeave
  pub opens : (file : List ℕ) → MayLeave file → (entries : List (List ℕ)) × StandsFor file entries × StandsAfter entries under × (IsHistory kept → IsHistory entries)

-- why rows that came together aren't served, as the desk says it: of a line that is too long it is said that nothing is kept
abbrev pub together_fault : SessionFault → TogetherFault
together_fault (session.Journal cause) = together.Session (session.Journal cause)
together_fault session.Read = together.Session session.Read
together_fault session.Write = together.Session session.Write
together_fault session.LongLine = together.Unkept session.LongLine
together_fault session.Unfinished = together.Session session.Unfinished
together_fault session.OutOfMemory = together.Session session.OutOfMemory

-- What the words of a fault say is kept is so. Where the answers can't be written, all rows are kept; where the journal can't be
-- written or memory ran out, nothing is said; and otherwise the disk is as it was.
abbrev pub SaysOfSession : (IsAsItWas AreAllKept : Type 0) → SessionFault → Type 0
SaysOfSession IsAsItWas AreAllKept (session.Journal fault) = Unit {0}
SaysOfSession IsAsItWas AreAllKept session.Read = IsAsItWas
SaysOfSession IsAsItWas AreAllKept session.Write = AreAllKept
SaysOfSession IsAsItWas AreAllKept session.LongLine = IsAsItWas
SaysOfSession IsAsItWas AreAllKept session.Unfinished = IsAsItWas
SaysOfSession IsAsItWas AreAllKept session.OutOfMemory = Unit {0}

abbrev pub SaysWhatIsKept : (IsAsItWas AreAllKept : Type 0) → TogetherFault → Type 0
SaysWhatIsKept IsAsItWas AreAllKept (together.Session ended) = SaysOfSession IsAsItWas AreAllKept ended
SaysWhatIsKept IsAsItWas AreAllKept together.OutOfMemory = Unit {0}
SaysWhatIsKept IsAsItWas AreAllKept (together.Faults count) = IsAsItWas
SaysWhatIsKept IsAsItWas AreAllKept (together.Refused line) = IsAsItWas
SaysWhatIsKept IsAsItWas AreAllKept (together.Held line) = IsAsItWas
SaysWhatIsKept IsAsItWas AreAllKept (together.Unkept ended) = IsAsItWas
