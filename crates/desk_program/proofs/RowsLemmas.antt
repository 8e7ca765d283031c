-- The rows of entries, written one after another.
use Rattle.std.proofs.Common.{◌≡◌, ◌∙◌, ◌+◌, ◌<◌, ℕ, List, [], ◌∷◌, ◌++◌, length, take, refl, sym, ap, append_assoc, append-nil, arith}
use Rattle.std.specs.Prelude.{Option, None, Some, Vec, false, is_none, true}
use Rattle.std.specs.declared.alloc.Global.{Global}
use Rattle.desk_journal.specs.Words.{batch_of}
use Rattle.desk_numbers.specs.declared.moved.Moved.{Moved}
use Rattle.desk_register.specs.declared.standing.Standing.{Standing}
use Rattle.desk_entries.specs.Words.{Note, next_number, note_in, row_entries, row_only, row_written, rows_written}
use Rattle.desk_entries.proofs.CallerLemmas.{no_rows_first, row_entries-more, rows_written-append}

-- what is written before the first row
pub rows_first : (under : Standing) (moved : List Moved) (head text : List ℕ) (entries : List (Vec ℕ Global)) → text ≡ [] ++ head → [] ++ text ≡ head ++ rows_written under moved 1 (row_entries (batch_of (take 1 entries)))
unfolding rows_written
rows_first under moved head text entries is = is ∙ sym (ap (λ (l : List (List ℕ)). head ++ rows_written under moved 1 l) (no_rows_first entries) ∙ append-nil head)

-- and the number of that row
pub number_first : (entries : List (Vec ℕ Global)) → 1 ≡ next_number (batch_of (take 1 entries))
number_first entries = sym (ap (λ (l : List (List ℕ)). length l + 1) (no_rows_first entries))

-- what is written after one entry more
pub rows_more : (under : Standing) (moved : List Moved) (written text then front left head : List ℕ) (kept : List (List ℕ)) (entry : List ℕ) (number : ℕ) → 0 < length kept → number ≡ next_number kept
    → written ++ text ≡ head ++ rows_written under moved 1 (row_entries kept) → then ≡ text ++ rows_written under moved number (row_only (note_in entry) entry) → then ≡ front ++ left
    → (written ++ front) ++ left ≡ head ++ rows_written under moved 1 (row_entries (kept ++ entry ∷ []))
rows_more under moved written text then front left head kept entry number begun next so_far more parts =
    let one = row_only (note_in entry) entry in
    let here : 1 + length (row_entries kept) ≡ number = omega (arith, next) in
    append_assoc written front left
    ∙ ap (λ (l : List ℕ). written ++ l) (sym parts ∙ more)
    ∙ sym (append_assoc written text (rows_written under moved number one))
    ∙ ap (λ (l : List ℕ). l ++ rows_written under moved number one) so_far
    ∙ append_assoc head (rows_written under moved 1 (row_entries kept)) (rows_written under moved number one)
    ∙ ap (λ (l : List ℕ). head ++ l)
    (ap (λ (n : ℕ). rows_written under moved 1 (row_entries kept) ++ rows_written under moved n one) (sym here) ∙ sym (rows_written-append under moved 1 (row_entries kept) one) ∙ ap (rows_written under moved 1) (sym (row_entries-more kept entry begun)))

-- what is written of an entry that is no row, and of one that is
pub no_row_written : (under : Standing) (moved : List Moved) (number : ℕ) (entry : List ℕ) → is_none (note_in entry) ≡ false → rows_written under moved number (row_only (note_in entry) entry) ≡ []
unfolding rows_written
no_row_written under moved number entry noted = by (note_in entry) noted
  where
    by : (n : Option Note) → is_none n ≡ false → rows_written under moved number (row_only n entry) ≡ []
    by None h = cc h
    by (Some note) h = refl

pub one_row_written : (under : Standing) (moved : List Moved) (number : ℕ) (entry : List ℕ) → is_none (note_in entry) ≡ true → rows_written under moved number (row_only (note_in entry) entry) ≡ row_written under moved number entry
unfolding rows_written
one_row_written under moved number entry row = by (note_in entry) row
  where
    by : (n : Option Note) → is_none n ≡ true → rows_written under moved number (row_only n entry) ≡ row_written under moved number entry
    by None h = append-nil (row_written under moved number entry)
    by (Some note) h = cc h
