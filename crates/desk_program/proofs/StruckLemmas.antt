-- The strikes among entries, one after another.
use Rattle.std.proofs.Common.{◌≡◌, ◌∙◌, ◌+◌, ◌<◌, ◌≤◌, ℕ, List, ◌∷◌, ◌++◌, drop, get_or, length, sym, ap, append_assoc, append-nil}
use Rattle.std.specs.Prelude.{Vec}
use Rattle.std.specs.declared.alloc.Global.{Global}
use Rattle.std.proofs.lemmas.List.{drop_all, drop_more}
use Rattle.desk_journal.specs.Words.{batch_of}
use Rattle.desk_numbers.specs.Strikes.Words.{restore_in}
use Rattle.desk_program.specs.Struck.{restored_as, rows_restored, struck_line, struck_text}

-- the first of the entries that are left
left_from : (entries : List (Vec ℕ Global)) (place : ℕ) (entry : Vec ℕ Global) → place < length entries → entry ≡ get_or entries place entry → batch_of (drop place entries) ≡ entry.items ∷ batch_of (drop (place + 1) entries)
left_from entries place entry lt is = ap batch_of (drop_more entries place entry lt) ∙ ap (λ (e : Vec ℕ Global). e.items ∷ batch_of (drop (place + 1) entries)) (sym is)

-- the rows that are restored from it on
pub restored_next : (entries : List (Vec ℕ Global)) (place : ℕ) (entry : Vec ℕ Global) (restored : List ℕ) → place < length entries → entry ≡ get_or entries place entry → restored ≡ rows_restored (batch_of (drop place entries))
    → restored ≡ restored_as (restore_in entry.items) ++ rows_restored (batch_of (drop (place + 1) entries))
restored_next entries place entry restored lt is from = from ∙ ap rows_restored (left_from entries place entry lt is)

-- the lines after it
pub struck_next : (entries : List (Vec ℕ Global)) (place : ℕ) (entry : Vec ℕ Global) (restored text after whole : List ℕ) → place < length entries → entry ≡ get_or entries place entry
    → restored ≡ rows_restored (batch_of (drop (place + 1) entries)) → after ≡ text ++ struck_line entry.items restored → text ++ struck_text (batch_of (drop place entries)) ≡ whole
    → after ++ struck_text (batch_of (drop (place + 1) entries)) ≡ whole
unfolding struck_text
struck_next entries place entry restored text after whole lt is later more so_far =
    let rest : List (List ℕ) = batch_of (drop (place + 1) entries) in
    ap (λ (t : List ℕ). t ++ struck_text rest) more
    ∙ append_assoc text (struck_line entry.items restored) (struck_text rest)
    ∙ ap (λ (r : List ℕ). text ++ (struck_line entry.items r ++ struck_text rest)) later
    ∙ ap (λ (l : List (List ℕ)). text ++ struck_text l) (sym (left_from entries place entry lt is))
    ∙ so_far

-- after the last
pub struck_all : (entries : List (Vec ℕ Global)) (place : ℕ) (text whole : List ℕ) → length entries ≤ place → text ++ struck_text (batch_of (drop place entries)) ≡ whole → text ≡ whole
unfolding struck_text
struck_all entries place text whole le so_far =
    sym (append-nil text) ∙ ap (λ (l : List (Vec ℕ Global)). text ++ struck_text (batch_of l)) (sym (drop_all place entries le)) ∙ so_far
