-- A docket that goes on with later entries.
use Rattle.std.proofs.Common.{◌≡◌, ◌∙◌, ◌+◌, ◌<◌, ◌≤◌, ◌&&◌, ◌++◌, ◌∷◌, ℕ, suc, zero, Bool, true, false, List, [], Option, Some, None, Result, Ok, Err, length, refl, sym, ap, subst, append_assoc}
use Rattle.std.specs.Prelude.{Vec, drop, get_or, is_none, take}
use Rattle.std.specs.declared.alloc.Global.{Global}
use Rattle.std.proofs.lemmas.List.{at_drop_all, at_drop_more}
use Rattle.court_days.specs.Words.{CourtFile, CourtView, file_of}
use Rattle.desk_numbers.specs.Strikes.Words.{CorrectionsView}
use Rattle.desk_journal.specs.Words.{batch_of}
use Rattle.desk_register.specs.declared.standing.Standing.{Standing}
use Rattle.desk_register.specs.Words.{IsReadyAt, note_in}
use Rattle.desk_register.proofs.CallerLemmas.{parts_at, take_batch}
use Rattle.desk_entries.specs.Follow.{GoingOnIsOpeningAnew, are_rows}

-- the first of the entries that are left
pub rows_next : (entries : List (Vec ℕ Global)) (place : ℕ) (entry : Vec ℕ Global) → place < length entries → entry ≡ get_or entries place entry
    → are_rows (batch_of (drop place entries)) ≡ (is_none (note_in entry.items) && are_rows (batch_of (drop (place + 1) entries)))
rows_next entries place entry lt is =
    at_drop_more (λ (l : List (Vec ℕ Global)). are_rows (batch_of l)) entries place entry lt
    ∙ ap (λ (e : Vec ℕ Global). is_none (note_in e.items) && are_rows (batch_of (drop (place + 1) entries))) (sym is)

pub none_left : (entries : List (Vec ℕ Global)) (place : ℕ) → length entries ≤ place → are_rows (batch_of (drop place entries)) ≡ true
none_left entries place le = at_drop_all (λ (l : List (Vec ℕ Global)). are_rows (batch_of l)) entries place le

-- where all are rows, so are those that are left
rest_of : (a b : Bool) → (a && b) ≡ true → b ≡ true
rest_of true b h = h
rest_of false b h = cc h

first_of : (a b : Bool) → (a && b) ≡ true → a ≡ true
first_of true b h = refl
first_of false b h = cc h

rows_left : (entries : List (Vec ℕ Global)) (place : ℕ) → are_rows (batch_of entries) ≡ true → are_rows (batch_of (drop place entries)) ≡ true
rows_left entries zero all = all
rows_left [] (suc place) all = refl
rows_left (entry ∷ entries) (suc place) all = rows_left entries place (rest_of (is_none (note_in entry.items)) (are_rows (batch_of entries)) all)

no_note : {A : Type 0} (o : Option A) → is_none o ≡ true → o ≡ None
no_note None h = refl
no_note (Some a) h = cc h

pub row_at : (entries : List (Vec ℕ Global)) (place : ℕ) (entry : Vec ℕ Global) → place < length entries → entry ≡ get_or entries place entry → are_rows (batch_of entries) ≡ true → note_in entry.items ≡ None
row_at entries place entry lt is all =
    no_note (note_in entry.items) (first_of (is_none (note_in entry.items)) (are_rows (batch_of (drop (place + 1) entries))) (sym (rows_next entries place entry lt is) ∙ rows_left entries place all))

-- entries after others, with one more of them
pub then_more : (before : List (List ℕ)) (entries : List (Vec ℕ Global)) (place : ℕ) (entry : Vec ℕ Global) → place < length entries → entry ≡ get_or entries place entry
    → before ++ batch_of (take (place + 1) entries) ≡ (before ++ batch_of (take place entries)) ++ entry.items ∷ []
then_more before entries place entry lt is =
    ap (λ (l : List (List ℕ)). before ++ l) (take_batch entries place entry lt is) ∙ sym (append_assoc before (batch_of (take place entries)) (entry.items ∷ []))

-- and with all that come after it
pub parts_after : (before : List (List ℕ)) (entries : List (Vec ℕ Global)) (place : ℕ) (entry : Vec ℕ Global) → place < length entries → entry ≡ get_or entries place entry
    → before ++ batch_of entries ≡ (before ++ batch_of (take place entries)) ++ entry.items ∷ batch_of (drop (place + 1) entries)
parts_after before entries place entry lt is =
    ap (λ (l : List (List ℕ)). before ++ l) (parts_at entries place entry.items (take_batch entries place entry lt is))
    ∙ sym (append_assoc before (batch_of (take place entries)) (entry.items ∷ batch_of (drop (place + 1) entries)))

-- one file says both courts
one_court : {E : Type 0} (r : Result CourtFile E) (a b : CourtView) → r ≡ Ok (file_of a) → r ≡ Ok (file_of b) → file_of a ≡ file_of b
one_court (Ok f) a b first second = cc (first, second)
one_court (Err e) a b first second = cc first

same_corrections : (a b : CorrectionsView) → a.struck ≡ b.struck → a.kept ≡ b.kept → a ≡ b
same_corrections a b struck kept = λ i. record { struck = struck i; kept = kept i }

same_standing : (a b : Standing) → a.court ≡ b.court → a.corrections ≡ b.corrections → a ≡ b
same_standing a b court corrections = λ i. record { court = court i; corrections = corrections i }

-- the law
pub going_on : GoingOnIsOpeningAnew
going_on docketed other entries d e =
    let corrections : docketed.standing.corrections ≡ other.standing.corrections =
    same_corrections docketed.standing.corrections other.standing.corrections (d.standing.struck ∙ sym e.standing.struck) (d.standing.numbers ∙ sym e.standing.numbers) in (
      record {
        court = one_court _ docketed.standing.court other.standing.court d.standing.court e.standing.court;
        corrections = corrections;
        entries = d.stands.at.count ∙ sym e.stands.at.count;
        number = d.stands.at.number ∙ sym e.stands.at.number;
      },
      λ same. subst (λ (u : Standing). IsReadyAt u other.register entries) (sym (same_standing docketed.standing other.standing same corrections)) e.stands,
    )
