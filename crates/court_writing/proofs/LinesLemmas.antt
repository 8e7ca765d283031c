-- Lines of one day more, and of one year more; and a text made part by part.
use Rattle.std.proofs.Common.{◌≡◌, ℕ, suc, ◌+◌, ℤ, pos, ◌+ℤ◌, List, ◌++◌, codes, ap, append_assoc, arith, ◌∙◌}
use Rattle.court_days.specs.declared.holiday_list.HolidayList.{HolidayList}
use Rattle.court_days.specs.declared.holiday_list.HolidayList.TheVariants as list
use Rattle.court_holidays.specs.States.Words.{on}
use Rattle.court_holidays.specs.declared.states.state.State.{State}
use Rattle.court_writing.specs.declared.lines.Line.{Line}
use Rattle.court_writing.specs.declared.lines.Line.TheVariants.{Named}
use Rattle.court_writing.specs.Named.{line_on, lines_from, lines_of_year, lines_through, list_text, years_from, IsTextOf}

pub one_line_more : (state : State) (line : Line) (first : ℤ) (n : ℕ) → lines_from state line first (n + 1) ≡ lines_from state line first n ++ line_on state line (first +ℤ pos n)
unfolding lines_from
one_line_more state line first n = let next : n + 1 ≡ suc n = omega arith in ap (lines_from state line first) next

pub one_year_more : (state : State) (list : HolidayList) (first n : ℕ) → years_from state list first (n + 1) ≡ years_from state list first n ++ lines_of_year state list (first + n)
unfolding years_from
one_year_more state list first n = let next : n + 1 ≡ suc n = omega arith in ap (years_from state list first) next

-- what was added so far, and one part more
pub one_part_more : (now text before so_far part : List ℕ) → now ≡ text ++ part → text ≡ before ++ so_far → now ≡ before ++ (so_far ++ part)
one_part_more now text before so_far part more is = more ∙ ap (λ t. t ++ part) is ∙ append_assoc before so_far part

-- the text of a file, part by part
pub is_text : (state : State) (from to : ℕ) (t1 t2 t3 t4 text head federal_note state_note judges_and_rooms : List ℕ) (first last : ℤ)
    → t1 ≡ head ++ list_text state list.Federal federal_note from to
    → t2 ≡ t1 ++ codes "\n"
    → t3 ≡ t2 ++ list_text state list.State state_note from to
    → t4 ≡ t3 ++ judges_and_rooms
    → text ≡ t4 ++ lines_through state Named first last
    → first ≡ on 1 1 (pos from) → last ≡ on 12 31 (pos to)
    → IsTextOf state from to text
is_text state from to t1 t2 t3 t4 text head federal_note state_note judges_and_rooms first last is1 is2 is3 is4 is5 first_is last_is =
    let parts = is5
    ∙ ap (λ t. t ++ lines_through state Named first last) (is4 ∙ ap (λ t. t ++ judges_and_rooms) (is3 ∙ ap (λ t. t ++ list_text state list.State state_note from to) (is2 ∙ ap (λ t. t ++ codes "\n") is1))) in
    record { head = head; federal_note = federal_note; state_note = state_note; judges_and_rooms = judges_and_rooms; is = rw (← first_is, ← last_is) parts }
