-- Rows of triggers one after another.
use Rattle.std.proofs.Common.{◌≡◌, ◌∙◌, ◌+◌, ◌≤◌, ◌<◌, ℕ, List, drop, length, sym, ap}
use Rattle.std.specs.Prelude.{Option}
use Rattle.std.proofs.lemmas.List.{drop_all}
use Rattle.court_file_text.specs.Words.{NamedTextView}
use Rattle.row_forms.specs.Words.{CourtNames}
use Rattle.row_fields.specs.declared.dates.DateOrder.{DateOrder}
use Rattle.row_written.specs.Words.{word_at}
use Rattle.row_written.proofs.CallerLemmas.{next_word}
use Rattle.row_input.specs.LineRows.{RowsOfLine, with_row}
use Rattle.row_input.specs.Triggers.{period_row, with_periods}

-- the rows of the periods from a place on: that of the period there, and those after it
module _ (clerks : ℕ) (names : CourtNames) (own : List NamedTextView) (order : Option DateOrder) (header : Option (List (List ℕ))) (text : List ℕ) (fields periods : List (List ℕ)) (i : ℕ) (said all : RowsOfLine) where
  pub periods_more : (more : RowsOfLine) → i < length periods → with_periods clerks names own order header text fields said (drop i periods) ≡ all
      → more ≡ with_row said (period_row clerks names own order header text fields (word_at periods i))
      → with_periods clerks names own order header text fields more (drop (i + 1) periods) ≡ all
  unfolding with_periods
  periods_more more there whole is =
      ap (λ (s : RowsOfLine). with_periods clerks names own order header text fields s (drop (i + 1) periods)) is
      ∙ sym (ap (with_periods clerks names own order header text fields said) (next_word periods i there))
      ∙ whole

  pub periods_all : length periods ≤ i → with_periods clerks names own order header text fields said (drop i periods) ≡ all → said ≡ all
  unfolding with_periods
  periods_all past whole = sym (ap (with_periods clerks names own order header text fields said) (drop_all i periods past)) ∙ whole
