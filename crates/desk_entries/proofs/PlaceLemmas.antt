-- What an answer gives has the number that is noted of its row, since the docket gives each place once.
use Rattle.std.proofs.Common.{◌≡◌, ◌∙◌, ◌+◌, ◌<◌, ◌≤◌, ◌&&◌, ℕ, Bool, true, false, cond, List, [], ◌∷◌, ◌++◌, find, Option, Some, None, nat_eq, refl, ap, subst, arith}
use Rattle.std.specs.List.{list_any}
use Rattle.std.proofs.lemmas.Bool.Decides.{nat_tests}
use Rattle.std.proofs.lemmas.List.Folds.{list_any-append}
use Rattle.case_numbers.specs.Words.{after_name}
use Rattle.docket_rows.specs.declared.answer.Answer.TheVariants as answer
use Rattle.docket_rows.specs.declared.command.Command.TheVariants as command
use Rattle.docket_rows.specs.Words.{Rows, setup_of}
use Rattle.row_forms.specs.declared.row.Work.{Work}
use Rattle.row_forms.specs.declared.row.Work.TheVariants as work
use Rattle.row_forms.specs.Words.{names_of}
use Rattle.office_texts.specs.declared.run.reply.Reply.{Reply}
use Rattle.office_texts.specs.declared.run.reply.Reply.TheVariants.{Made, Viewed}
use Rattle.docket_rows.specs.declared.command.Counted.{Counted}
use Rattle.docket_rows.specs.declared.command.Counted.TheVariants.{Deadline, Motion}
use Rattle.desk_numbers.specs.declared.given.Given.{Given}
use Rattle.desk_numbers.specs.declared.moved.Moved.{Moved}
use Rattle.docket_rows.specs.Words.{are_alike}
use Rattle.desk_numbers.specs.Words.{NumbersView, given_by, is_at, number_for, number_in, number_of, numbered, numbers_after, placed, with_number}
use Rattle.desk_numbers.proofs.CallerLemmas.{found_after, its_place, none_found}
use Rattle.row_forms.specs.declared.line.line.Line.{Line}
use Rattle.row_forms.specs.declared.line.line.Line.TheVariants as line
use Rattle.row_forms.specs.Line.Words.{line_read}
use Rattle.desk_numbers.specs.Strikes.Words.{is_struck}
use Rattle.desk_register.specs.declared.standing.Standing.{Standing}
use Rattle.desk_register.specs.Words.{Run, most_clerks, next_number, numbers_with, opening_run, reply_by_places, row_entries, run_after, run_by, run_entry, run_past, run_said, run_with}
use Rattle.desk_entries.specs.Laws.{AnAnswerShowsItsNumber}
use Rattle.desk_entries.proofs.CountLemmas.{count_of, gives_next, never_fewer}

-- past what is docketed there is nothing that isn't at its place
abbrev IsFree : Rows → List Moved → Type 0
IsFree rows moved = (case : ℕ) (counted : Counted) (place : ℕ) → count_of rows case counted < place → list_any (is_at case counted place) moved ≡ false

free_later : (rows then : Rows) (moved : List Moved) → ((case : ℕ) (counted : Counted) → count_of rows case counted ≤ count_of then case counted) → IsFree rows moved → IsFree then moved
free_later rows then moved grown free = λ case counted place past. free case counted place (omega (arith, grown case counted, past))

same_kind : (a b : Counted) → are_alike a b ≡ true → a ≡ b
same_kind Deadline Deadline h = refl
same_kind Deadline Motion h = absurd cc
same_kind Motion Deadline h = absurd cc
same_kind Motion Motion h = refl

-- one that is docketed is at no place past
not_past : (rows : Rows) (m : Moved) (case : ℕ) (counted : Counted) (place : ℕ) → m.place ≤ count_of rows m.case m.counted → count_of rows case counted < place → is_at case counted place m ≡ false
not_past rows m case counted place there past = by (nat_eq m.case case) refl (are_alike m.counted counted) refl
  where
    by : (b : Bool) → nat_eq m.case case ≡ b → (a : Bool) → are_alike m.counted counted ≡ a → ((b && a) && nat_eq m.place place) ≡ false
    by false other a kind = refl
    by true same false kind = refl
    by true same true kind =
        let here : m.case ≡ case = grind (arith, nat_tests) in
        let counts : count_of rows m.case m.counted ≡ count_of rows case counted = ap (λ c. count_of rows c m.counted) here ∙ ap (count_of rows case) (same_kind m.counted counted kind) in
        let less : m.place < place = omega (arith, there, past, counts) in
        grind (arith, nat_tests)

free_more : (rows : Rows) (moved : List Moved) (m : Moved) → m.place ≤ count_of rows m.case m.counted → IsFree rows moved → IsFree rows (moved ++ m ∷ [])
free_more rows moved m there free = λ case counted place past.
    list_any-append (is_at case counted place) moved (m ∷ []) ∙ rw (free case counted place past, not_past rows m case counted place there past) refl

-- after a row that gave nothing, and after one that gave what is docketed now
free_with : (rows : Rows) (numbers : NumbersView) (at : Given) (number : ℕ) → at.number ≤ count_of rows at.case at.counted → IsFree rows numbers.moved → IsFree rows (with_number numbers at number).moved
free_with rows numbers at number there free = by (nat_eq at.number number)
  where
    m : Moved
    m = record { case = at.case; counted = at.counted; place = at.number; number = number }

    by : (b : Bool) → IsFree rows (cond b numbers.moved (numbers.moved ++ m ∷ []))
    by true = free
    by false = free_more rows numbers.moved m there free

with_one : (under : Standing) (run : Run) (number : ℕ) (asked : Work) → IsFree run.docketed run.numbers.moved → IsFree (run_with under run number asked).docketed (run_with under run number asked).numbers.moved
unfolding numbers_after
with_one under run number asked free = by (given_by asked (reply_by_places under run.docketed run.numbers asked)) refl
  where
    kept : List (Option Given)
    kept = under.corrections.kept

    later : IsFree (run_with under run number asked).docketed run.numbers.moved
    later = free_later run.docketed (run_with under run number asked).docketed run.numbers.moved (never_fewer (setup_of under.court) run.docketed (placed run.numbers.moved asked)) free

    by : (at : Option Given) → given_by asked (reply_by_places under run.docketed run.numbers asked) ≡ at → IsFree (run_with under run number asked).docketed (numbers_after kept run.numbers number at).moved
    by None none = later
    by (Some at) given =
        let next = gives_next (setup_of under.court) run.docketed run.numbers.moved asked at given in
        free_with (run_with under run number asked).docketed run.numbers at (number_for kept run.numbers.moved number at) next.there later

said_one : (under : Standing) (run : Run) (number : ℕ) (said : Line) → IsFree run.docketed run.numbers.moved → IsFree (run_said under run number said).docketed (run_said under run number said).numbers.moved
said_one under run number line.Blank free = free
said_one under run number (line.Fault cause) free = free
said_one under run number (line.Row row) free = with_one under run number row.work free

entry_one : (under : Standing) (run : Run) (number : ℕ) (entry : List ℕ) → IsFree run.docketed run.numbers.moved → IsFree (run_entry under run number entry).docketed (run_entry under run number entry).numbers.moved
entry_one under run number entry free = by (is_struck under.corrections number)
  where
    said : Run
    said = run_said under run number (line_read most_clerks (names_of under.court) (after_name entry))

    by : (b : Bool) → IsFree (cond b (run_past under run number) said).docketed (cond b (run_past under run number) said).numbers.moved
    by true = free
    by false = said_one under run number (line_read most_clerks (names_of under.court) (after_name entry)) free

all_free : (under : Standing) (run : Run) (number : ℕ) (entries : List (List ℕ)) → IsFree run.docketed run.numbers.moved → IsFree (run_after under run number entries).docketed (run_after under run number entries).numbers.moved
unfolding run_after
all_free under run number [] free = free
all_free under run number (entry ∷ entries) free = all_free under (run_entry under run number entry) (number + 1) entries (entry_one under run number entry free)

-- what is at a new place has the number that is put down for it
new_place : (numbers : NumbersView) (at : Given) (number : ℕ) → list_any (is_at at.case at.counted at.number) numbers.moved ≡ false → number_in (with_number numbers at number).moved at.case at.counted at.number ≡ number
unfolding number_in
new_place numbers at number free = by (nat_eq at.number number) refl
  where
    m : Moved
    m = record { case = at.case; counted = at.counted; place = at.number; number = number }

    is_there : Moved → Bool
    is_there = is_at at.case at.counted at.number

    by : (b : Bool) → nat_eq at.number number ≡ b → number_of (find is_there (cond b numbers.moved (numbers.moved ++ m ∷ []))) at.number ≡ number
    by true same =
        let equal : at.number ≡ number = grind (arith, nat_tests) in
        ap (λ (found : Option Moved). number_of found at.number) (none_found is_there numbers.moved free) ∙ equal
    by false other = ap (λ (found : Option Moved). number_of found at.number) (found_after is_there numbers.moved [] m free (its_place m))

-- a reply with numbers gives the number of what the docket gave
gives_numbered : (moved : List Moved) (asked : Work) (reply : Reply) (at : Given) → given_by asked reply ≡ Some at
    → given_by asked (numbered moved asked reply) ≡ Some (record at { number = number_in moved at.case at.counted at.number })
unfolding given_by numbered
gives_numbered moved (work.Command (command.Start case period event second service)) (Made (answer.Started number shown)) at is =
    subst (λ (g : Given). Some (record { case = case; counted = Deadline; number = number_in moved case Deadline number }) ≡ Some (record g { number = number_in moved g.case g.counted g.number })) (cc is) refl
gives_numbered moved (work.Command (command.Motion case served need)) (Made (answer.MotionEntered number)) at is =
    subst (λ (g : Given). Some (record { case = case; counted = Motion; number = number_in moved case Motion number }) ≡ Some (record g { number = number_in moved g.case g.counted g.number })) (cc is) refl
gives_numbered moved (work.Query query) reply at is = absurd cc
gives_numbered moved (work.Command asked) (Viewed shown) at is = absurd cc
gives_numbered moved (work.Command asked) (Made made) at is = absurd cc

-- the law
pub shows_its_number : AnAnswerShowsItsNumber
unfolding run_by numbers_after
shows_its_number under kept asked at given =
    let run = run_by under kept in
    let row = next_number kept in
    let number = number_for under.corrections.kept run.numbers.moved row at in
    let free : IsFree run.docketed run.numbers.moved = all_free under (opening_run under) 1 (row_entries kept) (λ case counted place past. refl) in
    let next = gives_next (setup_of under.court) run.docketed run.numbers.moved asked at given in
    let new = free at.case at.counted at.number (omega (arith, next.next)) in
    let after = ap (numbers_after under.corrections.kept run.numbers row) given in
    let is = ap (λ (numbers : NumbersView). number_in numbers.moved at.case at.counted at.number) after ∙ new_place run.numbers at number new in
    gives_numbered (numbers_with under run row asked).moved asked (reply_by_places under run.docketed run.numbers asked) at given
    ∙ ap (λ n. Some (record at { number = n })) is
