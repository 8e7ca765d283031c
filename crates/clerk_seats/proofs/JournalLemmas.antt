-- The rows after one entry more.
use Rattle.std.proofs.Common.{◌≡◌, ℕ, ◌+◌, ◌<◌, List, [], ◌∷◌, ◌++◌, length, take, get_or, refl, ap, ◌∙◌}
use Rattle.std.proofs.lemmas.Grind.{take_at_read}
use Rattle.docket_rows.specs.declared.answer.Answer.{Answer}
use Rattle.docket_rows.specs.declared.command.Command.{Command}
use Rattle.docket_rows.specs.Words.{CourtSetup, Rows, opening_rows, step, rows_from}
use Rattle.versioned_steps.specs.declared.entry.Entry.{Entry}
use Rattle.shared_docket.specs.Words.{commands_of, rows_of}

module _ (setup : CourtSetup) where
  rows_push : (rows : Rows) (h : List (Entry Command Answer)) (e : Entry Command Answer) → rows_from setup rows (commands_of (h ++ e ∷ [])) ≡ (step setup (rows_from setup rows (commands_of h)) e.command).0
  unfolding rows_from
  rows_push rows [] e = refl
  rows_push rows (x ∷ xs) e = rows_push (step setup rows x.command).0 xs e

  pub rows_at : (h : List (Entry Command Answer)) (i : ℕ) (e : Entry Command Answer) → i < length h → rows_of setup (take (i + 1) h) ≡ (step setup (rows_of setup (take i h)) (get_or h i e).command).0
  rows_at h i e within = ap (rows_of setup) (take_at_read h i e within).1 ∙ rows_push (opening_rows setup) (take i h) (get_or h i e)
