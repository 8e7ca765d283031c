-- What is docketed after rows that have numbers.
use Rattle.std.proofs.Common.{◌≡◌, ◌∙◌, ◌+◌, ◌<◌, ℕ, List, length, take, get_or, ap}
use Rattle.std.proofs.lemmas.List.{map_more}
use Rattle.docket_rows.specs.Words.{CourtSetup, Rows}
use Rattle.row_forms.specs.declared.numbered.NumberedRow.{NumberedRow}
use Rattle.row_forms.specs.Words.{rows_of}
use Rattle.office_texts.specs.Run.Words.{docketed_after, docketed_then}
use Rattle.office_texts.proofs.RunLemmas.CallerLemmas.{docketed_more}

-- what is docketed after one row more
pub docketed_at_number : (setup : CourtSetup) (docketed : Rows) (rows : List NumberedRow) (i : ℕ) (d : NumberedRow) → i < length rows → docketed_after setup docketed (rows_of (take (i + 1) rows)) ≡ docketed_then setup (docketed_after setup docketed (rows_of (take i rows))) (get_or rows i d).row.work
docketed_at_number setup docketed rows i d within =
    ap (docketed_after setup docketed) (map_more (λ (n : NumberedRow). n.row) rows i d within) ∙ docketed_more setup docketed (rows_of (take i rows)) (get_or rows i d).row
