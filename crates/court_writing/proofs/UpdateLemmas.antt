-- Bytes that are put into a text, and why no years are added to a court's file.
use Rattle.std.proofs.Common.{◌≡◌, ℕ, true, false, List, [], ◌++◌, Option, Some, None, Result, Err, int_le, ℤ, pos, ◌+ℤ◌, take, drop, refl, sym, ap, ◌∙◌, append_assoc, inl, inr}
use Rattle.std.proofs.lemmas.List.{take-append-drop}
use Rattle.std.specs.Prelude.{◌⊎◌}
use Rattle.court_clock.specs.Words.{day_text}
use Rattle.court_days.specs.Words.{CourtFile}
use Rattle.court_days.specs.declared.holiday_list.HolidayList.TheVariants as list
use Rattle.court_file_text.specs.declared.fault.CourtFault.{CourtFault}
use Rattle.court_file_text.specs.declared.fault.CourtFault.TheVariants as court
use Rattle.court_file_text.specs.Words.{Fails}
use Rattle.court_holidays.specs.States.Words.{on}
use Rattle.court_holidays.specs.declared.states.state.State.{State}
use Rattle.court_writing.specs.Courts.{District}
use Rattle.court_writing.specs.Named.{lines_through}
use Rattle.court_writing.specs.declared.lines.Line.TheVariants.{Named}
use Rattle.court_writing.specs.Update.{IsExtended, IsLate, IsPut, IsRefused, IsWithLines, is_year, lines_after, refusal, refusal_of, said_text}
use Rattle.court_writing.specs.declared.update.UpdateFault.{UpdateFault}
use Rattle.court_writing.specs.declared.update.UpdateFault.TheVariants.{BadYear, NoCourt, NotRead, OutOfMemory, Reached}

-- a text that is divided twice, and its parts with others between them
pub is_put : (old new text before rest after first second whole : List ℕ) (at : ℕ) → before ≡ take at text → rest ≡ drop at text → rest ≡ old ++ after
    → first ≡ before → second ≡ first ++ new → whole ≡ second ++ after → IsPut old new text whole
is_put old new text before rest after first second whole at is_before is_rest parts one two three =
    let divided : text ≡ before ++ old ++ after = sym (take-append-drop at text) ∙ ap (λ b. b ++ drop at text) (sym is_before) ∙ ap (λ r. before ++ r) (sym is_rest ∙ parts) ∙ sym (append_assoc before old after) in
    let made : whole ≡ before ++ new ++ after = three ∙ ap (λ s. s ++ after) (two ∙ ap (λ f. f ++ new) one) in
    (before, after, divided, made)

pub is_front : (text begin rest front : List ℕ) (n : ℕ) → begin ≡ take n text → rest ≡ drop n text → begin ≡ front → text ≡ front ++ rest
is_front text begin rest front n is_begin is_rest same = sym (take-append-drop n text) ∙ ap (λ b. b ++ drop n text) (sym is_begin ∙ same) ∙ ap (λ r. front ++ r) (sym is_rest)

-- the refusals, in their order
pub no_court : {A : Type 0} (file : CourtFile) (said : Option District) (to : ℕ) (result : Result A UpdateFault) → said ≡ None → result ≡ Err NoCourt → IsRefused (refusal_of file said to) result
no_court file said to result none is = rw (none, is) (inl refl)

pub bad_year : {A : Type 0} (file : CourtFile) (said : Option District) (court : District) (to : ℕ) (result : Result A UpdateFault)
    → said ≡ Some court → is_year file.days to ≡ false → result ≡ Err BadYear → IsRefused (refusal_of file said to) result
bad_year file said court to result some bad is = rw (some, bad, is) (inl refl)

pub reached : {A : Type 0} (file : CourtFile) (said : Option District) (court : District) (to : ℕ) (result : Result A UpdateFault)
    → said ≡ Some court → is_year file.days to ≡ true → int_le (on 12 31 (pos to)) file.days.to ≡ true → result ≡ Err (Reached file.days.to) → IsRefused (refusal_of file said to) result
reached file said court to result some good far is = rw (some, good, far, is) (inl refl)

pub late : {A : Type 0} (file : CourtFile) (said : Option District) (court : District) (to : ℕ) (result : Result A UpdateFault)
    → said ≡ Some court → is_year file.days to ≡ true → int_le (on 12 31 (pos to)) file.days.to ≡ false → IsLate result → IsRefused (refusal_of file said to) result
late file said court to result some good more is = rw (some, good, more) is

-- memory may run out at any time
pub memory_refused : {A : Type 0} (why : Option UpdateFault) (result : Result A UpdateFault) → result ≡ Err OutOfMemory → IsRefused why result
memory_refused (Some fault) result is = inr is
memory_refused None result is = rw is refl

-- what isn't read is refused first
pub not_read : {A : Type 0} (fault : CourtFault) (read : Result CourtFile CourtFault) (said : Option District) (to : ℕ) (result : Result A UpdateFault) → (fault ≡ court.OutOfMemory → ⊥) → Fails fault read
    → result ≡ Err NotRead → IsRefused (refusal read said to) result
not_read court.NotToml read said to result other fails is = rw fails (inl is)
not_read (court.Missing k) read said to result other fails is = rw fails (inl is)
not_read (court.WrongKind k) read said to result other fails is = rw fails (inl is)
not_read (court.BadDate t) read said to result other fails is = rw fails (inl is)
not_read court.BadZone read said to result other fails is = rw fails (inl is)
not_read court.BadHours read said to result other fails is = rw fails (inl is)
not_read court.BadSpan read said to result other fails is = rw fails (inl is)
not_read (court.BadName t) read said to result other fails is = rw fails (inl is)
not_read (court.TwiceNamed t) read said to result other fails is = rw fails (inl is)
not_read (court.TooMany k) read said to result other fails is = rw fails (inl is)
not_read court.OutOfMemory read said to result other fails is = absurd (other refl)

-- the texts, one after another, are those of a file to which years are added
pub extended_so : (state : State) (l0 last first end : ℤ) (to : ℕ) (text t1 d1 t2 d2 t3 d3 result said federal f1 f2 of_state s1 s2 before names n1 : List ℕ)
    → last ≡ l0 → first ≡ last +ℤ pos 1 → end ≡ on 12 31 (pos to)
    → federal ≡ lines_after state list.Federal first to → f1 ≡ federal → f2 ≡ federal
    → of_state ≡ lines_after state list.State first to → s1 ≡ of_state → s2 ≡ of_state
    → before ≡ [] → names ≡ before ++ lines_through state Named first end → n1 ≡ names
    → d1 ≡ t1 → d2 ≡ t2 → d3 ≡ t3
    → IsPut (day_text last) (day_text end) text t1 → IsWithLines f1 d1 t2 → IsWithLines s1 d2 t3 → IsWithLines n1 d3 result ⊎ (result ≡ d3)
    → said ≡ said_text last end f2 s2 → IsExtended state l0 to text result said
extended_so state l0 last first end to text t1 d1 t2 d2 t3 d3 result said federal f1 f2 of_state s1 s2 before names n1 is_last is_first is_end is_federal is_f1 is_f2 is_state is_s1 is_s2 none is_names is_n1 is_d1 is_d2 is_d3 put with_federal with_state with_names told =
    let next : first ≡ l0 +ℤ pos 1 = is_first ∙ ap (λ d. d +ℤ pos 1) is_last in
    let all_federal : federal ≡ lines_after state list.Federal (l0 +ℤ pos 1) to = is_federal ∙ ap (λ d. lines_after state list.Federal d to) next in
    let all_state : of_state ≡ lines_after state list.State (l0 +ℤ pos 1) to = is_state ∙ ap (λ d. lines_after state list.State d to) next in
    let all_names : names ≡ lines_through state Named (l0 +ℤ pos 1) (on 12 31 (pos to)) =
    is_names ∙ ap (λ b. b ++ lines_through state Named first end) none ∙ ap (λ d. lines_through state Named d end) next ∙ ap (λ d. lines_through state Named (l0 +ℤ pos 1) d) is_end in
    record {
      with_last = t1;
      with_federal = t2;
      with_state = t3;
      last_day = rw (is_last, is_end) at put;
      federal = rw (is_f1 ∙ all_federal, is_d1) at with_federal;
      of_state = rw (is_s1 ∙ all_state, is_d2) at with_state;
      names = rw (is_n1 ∙ all_names, is_d3) at with_names;
      told = rw (is_last, is_end, is_f2 ∙ all_federal, is_s2 ∙ all_state) at told;
    }
