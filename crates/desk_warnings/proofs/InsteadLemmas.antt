-- How the searches for a day and for a slot go on.
use Rattle.std.proofs.Common.{◌≡◌, ◌∙◌, ◌<◌, ◌≤◌, ◌+◌, ◌-◌, ℕ, ℤ, pos, ◌+ℤ◌, ◌≤ℤ◌, ◌<ℤ◌, int_le, Bool, true, false, is_none, find, Option, Some, None, refl, sym, arith}
use Rattle.std.proofs.lemmas.Int.{ints}
use Rattle.std.specs.List.{range_with_len}
use Rattle.court_clock.specs.Words.{IsDayNumber, later_day}
use Rattle.court_days.specs.Words.{DaysView, IsSpan, earliest_day, is_covered}
use Rattle.court_days.proofs.CallerLemmas.{earliest_ends, earliest_skips}
use Rattle.docket_rows.specs.declared.command.Command.{Command}
use Rattle.docket_rows.specs.Words.{CourtSetup, Parts, refusal}
use Rattle.office_texts.proofs.RunLemmas.CallerLemmas.{range_more}
use Rattle.desk_warnings.specs.Instead.{at_slot}

-- the search of the covered days from a day on
pub days_begin : (c : DaysView) (test : ℤ → Bool) (d : ℤ) → earliest_day c test (later_day d c.from) ≡ earliest_day c test d
unfolding earliest_day
days_begin c test d =
    let same : later_day (later_day d c.from) c.from ≡ later_day d c.from = grind (arith, ints) in
    rw same refl

pub days_end : (c : DaysView) (test : ℤ → Bool) (d : ℤ) → c.from ≤ℤ d → is_covered c d ≡ false → earliest_day c test d ≡ None
days_end c test d low outside =
    let past : c.to <ℤ d = grind (arith, ints) in
    earliest_ends c test d low past

-- nor after a day that has no day after it
pub days_stop : (c : DaysView) (test : ℤ → Bool) (d : ℤ) → IsSpan c.from c.to → (IsDayNumber (d +ℤ pos 1) → ⊥) → is_covered c d ≡ true → test d ≡ false → earliest_day c test d ≡ None
days_stop c test d span last covered fails = by (int_le c.to d) refl
  where
    by : (b : Bool) → int_le c.to d ≡ b → earliest_day c test d ≡ None
    by true ends =
        let low : c.from ≤ℤ (d +ℤ pos 1) = grind (arith, ints) in
        let past : c.to <ℤ (d +ℤ pos 1) = grind (arith, ints) in
        sym (earliest_skips c test d (d +ℤ pos 1) covered fails refl) ∙ earliest_ends c test (d +ℤ pos 1) low past
    by false more =
        let before : d <ℤ c.to = grind (arith, ints) in
        let after : c.from ≤ℤ d = grind (arith, ints) in
        let first = span.first_is_day in
        let end = span.last_is_day in
        absurd (last (record { low = omega (arith, ints, before, after, first.low); high = omega (arith, ints, before, end.high) }))

-- the search of the slots from one on
abbrev pub free_from : CourtSetup → Parts → Command → (slot : ℕ) → Option ℕ
free_from setup parts command slot = find (λ s. is_none (refusal setup parts (at_slot command s))) (range_with_len slot (96 - slot))

pub slot_passed : (setup : CourtSetup) (parts : Parts) (command : Command) (slot : ℕ) → slot < 96 → is_none (refusal setup parts (at_slot command slot)) ≡ false → free_from setup parts command (slot + 1) ≡ free_from setup parts command slot
slot_passed setup parts command slot before taken = rw (range_more slot 96 (96 - slot) before refl, taken) refl

pub slot_found : (setup : CourtSetup) (parts : Parts) (command : Command) (slot : ℕ) → slot < 96 → is_none (refusal setup parts (at_slot command slot)) ≡ true → Some slot ≡ free_from setup parts command slot
slot_found setup parts command slot before free = rw (range_more slot 96 (96 - slot) before refl, free) refl

pub slots_end : (setup : CourtSetup) (parts : Parts) (command : Command) (slot : ℕ) → 96 ≤ slot → None ≡ free_from setup parts command slot
slots_end setup parts command slot past =
    let none : 96 - slot ≡ 0 = omega arith in
    rw none refl
