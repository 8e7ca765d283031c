-- What a command that isn't refused changes in its case.
use Rattle.std.proofs.Common.{◌≡◌, ℕ, zero, suc, ◌≤◌, ◌==◌, List, [], ◌∷◌, length, get_or, set, Option, Some, None, IfSome, option_map, option_and_then, unwrap_or, if◌then◌else◌, refl, ap, sym, ◌∙◌, arith, inl, inr}
use Rattle.std.proofs.lemmas.Bool.{cases_Bool}
use Rattle.std.proofs.lemmas.Bool.Decides.{nat_tests}
use Rattle.std.proofs.lemmas.List.{get_or-set_other}
use Rattle.docket_rows.specs.declared.command.Command.{Command}
use Rattle.docket_rows.specs.declared.command.Command.TheVariants.{OpenCase, Start, Extend, Motion, Book, MoveHearing, Fact}
use Rattle.docket_rows.specs.declared.part.PartValue.TheVariants as value
use Rattle.docket_rows.specs.Words.{CourtSetup, Parts, CaseRecordView, refusal, case_of, case_after}
use Rattle.docket_laws.proofs.CallerLemmas.{can_start, can_start_in, can_enter_in, can_record_in, can_extend_in, can_book, can_move, count_of}
use Rattle.docket_decisions.specs.Words.{CanChangeRecord}
use Rattle.docket_core.specs.Inside.Changes.{CanChangeCase}

-- there is room for what a command adds that isn't refused, which suits the case
pub can_change_record : (setup : CourtSetup) (parts : Parts) (command : Command) (case : Option CaseRecordView) → refusal setup parts command ≡ None → option_and_then parts.case (case_of command) ≡ case → IfSome case (CanChangeRecord command)
can_change_record setup parts command None made found = tt
can_change_record setup parts (Start case period event second service) (Some c) made found =
    let can = can_start setup parts case period event second service made in
    (can.suits, can.ranged, can_start_in setup parts case period event second service c made found)
can_change_record setup parts (Extend case deadline request) (Some c) made found = can_extend_in setup parts case deadline request c made found
can_change_record setup parts (Motion case served need) (Some c) made found = can_enter_in parts case served need c made found
can_change_record setup parts (Book s) (Some c) made found = count_of s.first s.count (can_book setup parts s made).fits
can_change_record setup parts (MoveHearing s) (Some c) made found = count_of s.first s.count (can_move setup parts s made).fits
can_change_record setup parts (Fact case fact) (Some c) made found = can_record_in setup parts case fact c made found
can_change_record setup parts _ (Some c) made found = tt

pub can_change_case : (setup : CourtSetup) (parts : Parts) (command : Command) → refusal setup parts command ≡ None → CanChangeCase parts command
can_change_case setup parts command made = can_change_record setup parts command _ made refl

-- the value of a case after its change
case_value : (command : Command) (o : Option CaseRecordView) → value.Case (case_after command o) ≡ unwrap_or (option_map (λ c. value.Case (Some c)) (case_after command o)) (value.Case o)
case_value (OpenCase case filed) o = refl
case_value _ None = refl
case_value _ (Some c) = refl

-- a change at a place; past the end it makes no case
changed_here : (change : Option CaseRecordView → Option CaseRecordView) (cases : List (Option CaseRecordView)) (n : ℕ) → (length cases ≤ n → change None ≡ None) → get_or (set cases n (change (get_or cases n None))) n None ≡ change (get_or cases n None)
changed_here change [] n past = sym (past (omega arith))
changed_here change (c ∷ cases) zero past = refl
changed_here change (c ∷ cases) (suc n) past = changed_here change cases n (λ beyond. past (omega arith))

-- the case of the number is changed, and no other
pub case_changed : (command : Command) (cases : List (Option CaseRecordView)) (n i : ℕ) → (length cases ≤ n → case_after command None ≡ None) → value.Case (get_or (set cases n (case_after command (get_or cases n None))) i None) ≡ unwrap_or (option_map (λ c. value.Case (Some c)) (if i == n then case_after command (get_or cases i None) else None)) (value.Case (get_or cases i None))
case_changed command cases n i past = elim (cases_Bool (i == n)) [
  | inl same ↦ (let e : i ≡ n = grind (arith, nat_tests) in rw (same, e) (ap value.Case (changed_here (case_after command) cases n past) ∙ case_value command (get_or cases n None)))
  | inr other ↦ rw other (ap value.Case (get_or-set_other cases n i (case_after command (get_or cases n None)) None (λ e. grind (arith, nat_tests))))
]
