-- The cases that rows name, entry by entry.
use Rattle.std.proofs.Common.{◌≡◌, ◌∙◌, ◌+◌, ◌<◌, ◌≤◌, ℕ, List, [], ◌∷◌, ◌++◌, get_or, length, map, sym, ap, take, take_all}
use Rattle.std.specs.Prelude.{Option, None, Vec}
use Rattle.std.specs.declared.alloc.Global.{Global}
use Rattle.std.proofs.lemmas.List.{map-append}
use Rattle.row_forms.specs.Words.{CourtNames}
use Rattle.desk_journal.specs.Words.{batch_of}
use Rattle.desk_entries.specs.Words.{note_in, row_entries, row_only}
use Rattle.desk_entries.proofs.CallerLemmas.{begun_batch, no_rows_first, row_entries-more, take_batch}
use Rattle.desk_program.specs.RowCase.{case_named, cases_named}

-- before the first row
pub cases_first : (names : CourtNames) (entries : List (Vec ℕ Global)) (cases : List (Option ℕ)) → cases ≡ None ∷ [] → cases ≡ cases_named names (batch_of (take 1 entries))
cases_first names entries cases none = none ∙ ap (λ (rows : List (List ℕ)). None ∷ map (case_named names) rows) (sym (no_rows_first entries))

-- after one entry more
pub cases_more : (names : CourtNames) (entries : List (Vec ℕ Global)) (place : ℕ) (entry : Vec ℕ Global) (before after : List (Option ℕ)) → 1 ≤ place → place < length entries → entry ≡ get_or entries place entry
    → before ≡ cases_named names (batch_of (take place entries)) → after ≡ before ++ map (case_named names) (row_only (note_in entry.items) entry.items)
    → after ≡ cases_named names (batch_of (take (place + 1) entries))
cases_more names entries place entry before after begun lt is so_far more =
    let kept : List (List ℕ) = batch_of (take place entries) in
    more
    ∙ ap (λ (l : List (Option ℕ)). l ++ map (case_named names) (row_only (note_in entry.items) entry.items)) so_far
    ∙ ap (λ (l : List (Option ℕ)). None ∷ l) (sym (map-append (case_named names) (row_entries kept) (row_only (note_in entry.items) entry.items)))
    ∙ ap (λ (rows : List (List ℕ)). None ∷ map (case_named names) rows) (sym (row_entries-more kept entry.items (begun_batch entries place begun lt)))
    ∙ ap (cases_named names) (sym (take_batch entries place entry lt is))

-- after the last
pub cases_all : (names : CourtNames) (entries : List (Vec ℕ Global)) (place : ℕ) (cases : List (Option ℕ)) → length entries ≤ place → cases ≡ cases_named names (batch_of (take place entries)) → cases ≡ cases_named names (batch_of entries)
cases_all names entries place cases le so_far = so_far ∙ ap (λ (l : List (Vec ℕ Global)). cases_named names (batch_of l)) (take_all place entries le)
