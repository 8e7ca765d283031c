-- The text of faults.
use Rattle.std.proofs.Common.{◌≡◌, ◌≢◌, ◌⊎◌, inl, inr, ◌∙◌, ◌+◌, ◌<◌, ℕ, Bool, cond, true, false, List, [], ◌∷◌, ◌++◌, length, map, take, refl, sym, ap, subst, append-nil}
use Rattle.std.specs.Prelude.{get_or}
use Rattle.std.proofs.lemmas.Grind.{flat_map-append}
use Rattle.std.proofs.lemmas.List.{map-append, take_more}
use Rattle.desk_register.specs.declared.line_faults.LineFault.{LineFault}
use Rattle.desk_entries.specs.Words.{FaultyLine, fault_in}
use Rattle.desk_session.specs.declared.fault.SessionFault.{SessionFault}
use Rattle.desk_session.specs.declared.fault.SessionFault.TheVariants as session
use Rattle.desk_session.specs.Words.{Stopped, StopsBytes}
use Rattle.std.specs.Prelude.{None, Option, Some}
use Rattle.desk_program.specs.declared.faults.together.TogetherFault.{TogetherFault}
use Rattle.desk_program.specs.declared.faults.together.TogetherFault.TheVariants.{Faults, Held, OutOfMemory, Refused, Unkept}
use Rattle.desk_program.specs.Together.{SaysWhatIsKept, line_fault_text, line_faults_text, stopped_fault, together_fault}

-- the text of faults, after one more
pub line_faults_text-more : (faults : List LineFault) (i : ℕ) (fault : LineFault) → i < length faults → fault ≡ get_or faults i fault
    → line_faults_text (map fault_in (take (i + 1) faults)) ≡ line_faults_text (map fault_in (take i faults)) ++ line_fault_text (fault_in fault)
line_faults_text-more faults i fault lt at =
    ap (λ (l : List LineFault). line_faults_text (map fault_in l)) (take_more faults i fault lt)
    ∙ ap line_faults_text (map-append fault_in (take i faults) (get_or faults i fault ∷ []))
    ∙ flat_map-append line_fault_text (map fault_in (take i faults)) (fault_in (get_or faults i fault) ∷ [])
    ∙ ap (λ (f : LineFault). line_faults_text (map fault_in (take i faults)) ++ (line_fault_text (fault_in f) ++ [])) (sym at)
    ∙ ap (λ (l : List ℕ). line_faults_text (map fault_in (take i faults)) ++ l) (append-nil (line_fault_text (fault_in fault)))

-- no faults
pub no_faults : (faults : List LineFault) → map fault_in faults ≡ [] → faults ≡ []
no_faults [] none = refl
no_faults (fault ∷ faults) none = cc none

-- lines in which no fault was found, and lines in which some were
pub none_at_fault : (faults : List LineFault) (all : List FaultyLine) → map fault_in faults ≡ all → faults ≡ [] → all ≡ []
none_at_fault faults all is none = sym is ∙ ap (map fault_in) none

pub some_at_fault : (faults : List LineFault) (all : List FaultyLine) → map fault_in faults ≡ all → faults ≢ [] → all ≢ []
some_at_fault faults all is some none = some (no_faults faults (is ∙ none))

-- what faults say is kept, by which they are
module _ (AsItWas AllKept : Type 0) where
  pub says_listed : (made : TogetherFault) (count : ℕ) → AsItWas → (made ≡ OutOfMemory) ⊎ ((made ≡ Unkept session.Write) ⊎ (made ≡ Faults count)) → SaysWhatIsKept AsItWas AllKept made
  says_listed made count was (inl is) = subst (SaysWhatIsKept AsItWas AllKept) (sym is) tt
  says_listed made count was (inr (inl is)) = subst (SaysWhatIsKept AsItWas AllKept) (sym is) was
  says_listed made count was (inr (inr is)) = subst (SaysWhatIsKept AsItWas AllKept) (sym is) was

  pub says_stopped : (made : TogetherFault) (line : Stopped) → AsItWas → (made ≡ OutOfMemory) ⊎ ((made ≡ Unkept session.Write) ⊎ (made ≡ stopped_fault line)) → SaysWhatIsKept AsItWas AllKept made
  says_stopped made line was (inl is) = subst (SaysWhatIsKept AsItWas AllKept) (sym is) tt
  says_stopped made line was (inr (inl is)) = subst (SaysWhatIsKept AsItWas AllKept) (sym is) was
  says_stopped made line was (inr (inr is)) = subst (SaysWhatIsKept AsItWas AllKept) (sym is) (by line.held)
    where
      by : (held : Bool) → SaysWhatIsKept AsItWas AllKept (cond held (Held line.number) (Refused line.number))
      by true = was
      by false = was

  pub says_unserved : (failed : Bool) (input : List ℕ) (ended : SessionFault) → StopsBytes failed [] input ended → (ended ≡ session.LongLine → AsItWas) → (ended ≡ session.Write → AllKept) → SaysWhatIsKept AsItWas AllKept (together_fault ended)
  says_unserved failed input (session.Journal cause) why long write = tt
  says_unserved failed input session.Read why long write = absurd why
  says_unserved failed input session.Write why long write = write refl
  says_unserved failed input session.LongLine why long write = long refl
  says_unserved failed input session.Unfinished why long write = absurd why
  says_unserved failed input session.OutOfMemory why long write = tt

-- a fault that isn't that lines have faults, nor that the list stops at a line
abbrev pub IsOther : TogetherFault → Type 0
IsOther made = ((count : ℕ) → made ≢ Faults count) × ((number : ℕ) → made ≢ Refused number) × ((number : ℕ) → made ≢ Held number)

pub unserved_other : (ended : SessionFault) (made : TogetherFault) → made ≡ together_fault ended → IsOther made
unserved_other (session.Journal cause) made is = (λ count e. cc (is, e), λ number e. cc (is, e), λ number e. cc (is, e))
unserved_other session.Read made is = (λ count e. cc (is, e), λ number e. cc (is, e), λ number e. cc (is, e))
unserved_other session.Write made is = (λ count e. cc (is, e), λ number e. cc (is, e), λ number e. cc (is, e))
unserved_other session.LongLine made is = (λ count e. cc (is, e), λ number e. cc (is, e), λ number e. cc (is, e))
unserved_other session.Unfinished made is = (λ count e. cc (is, e), λ number e. cc (is, e), λ number e. cc (is, e))
unserved_other session.OutOfMemory made is = (λ count e. cc (is, e), λ number e. cc (is, e), λ number e. cc (is, e))

-- that lines have faults isn't that the list stops at a line
pub listed_not_stopped : (made : TogetherFault) (count : ℕ) → (made ≡ OutOfMemory) ⊎ ((made ≡ Unkept session.Write) ⊎ (made ≡ Faults count)) → ((number : ℕ) → made ≢ Refused number) × ((number : ℕ) → made ≢ Held number)
listed_not_stopped made count (inl is) = (λ number e. cc (is, e), λ number e. cc (is, e))
listed_not_stopped made count (inr (inl is)) = (λ number e. cc (is, e), λ number e. cc (is, e))
listed_not_stopped made count (inr (inr is)) = (λ number e. cc (is, e), λ number e. cc (is, e))

-- and the list stops at a line that is refused, or at one that is held back, as the fault says
abbrev pub IsStopped : (line : Stopped) → (held : Bool) → (number : ℕ) → (made : TogetherFault) → Type 0
IsStopped line held number made = (number ≡ line.number) × (held ≡ line.held) × (made ≡ stopped_fault line)

stopped_refused : (line : Stopped) (held : Bool) (number : ℕ) → line.held ≡ held → cond held (Held line.number) (Refused line.number) ≡ Refused number → (number ≡ line.number) × (false ≡ line.held)
stopped_refused line true number is e = absurd (cc e)
stopped_refused line false number is e = (cc e, sym is)

stopped_held : (line : Stopped) (held : Bool) (number : ℕ) → line.held ≡ held → cond held (Held line.number) (Refused line.number) ≡ Held number → (number ≡ line.number) × (true ≡ line.held)
stopped_held line true number is e = (cc e, sym is)
stopped_held line false number is e = absurd (cc e)

pub as_refused : (made : TogetherFault) (line : Stopped) (number : ℕ) → (made ≡ OutOfMemory) ⊎ ((made ≡ Unkept session.Write) ⊎ (made ≡ stopped_fault line)) → made ≡ Refused number → IsStopped line false number made
as_refused made line number (inl is) e = absurd (cc (is, e))
as_refused made line number (inr (inl is)) e = absurd (cc (is, e))
as_refused made line number (inr (inr is)) e = let (number_is, held_is) = stopped_refused line line.held number refl (sym is ∙ e) in (number_is, held_is, is)

pub as_held : (made : TogetherFault) (line : Stopped) (number : ℕ) → (made ≡ OutOfMemory) ⊎ ((made ≡ Unkept session.Write) ⊎ (made ≡ stopped_fault line)) → made ≡ Held number → IsStopped line true number made
as_held made line number (inl is) e = absurd (cc (is, e))
as_held made line number (inr (inl is)) e = absurd (cc (is, e))
as_held made line number (inr (inr is)) e = let (number_is, held_is) = stopped_held line line.held number refl (sym is ∙ e) in (number_is, held_is, is)

pub stopped_no_faults : (made : TogetherFault) (line : Stopped) (count : ℕ) → (made ≡ OutOfMemory) ⊎ ((made ≡ Unkept session.Write) ⊎ (made ≡ stopped_fault line)) → made ≢ Faults count
stopped_no_faults made line count (inl is) e = cc (is, e)
stopped_no_faults made line count (inr (inl is)) e = cc (is, e)
stopped_no_faults made line count (inr (inr is)) e = by line.held (sym is ∙ e)
  where
    by : (held : Bool) → cond held (Held line.number) (Refused line.number) ≡ Faults count → ⊥
    by true same = cc same
    by false same = cc same

-- a list that stops at a line doesn't go on
pub never_none : (all : Option Stopped) (line : Stopped) → all ≡ Some line → all ≡ None → ⊥
never_none all line is none = cc (sym is ∙ none)
