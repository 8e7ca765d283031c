-- The rows that stand, after one more entry, and what they come to.
use Rattle.std.proofs.Common.{◌≡◌, ◌∙◌, ◌<◌, ℕ, Bool, true, false, cond, List, [], ◌∷◌, ◌++◌, Option, Some, None, length, length-append, refl, sym, ap, append_assoc, append-nil, arith}
use Rattle.std.specs.Prelude.{IsSome}
use Rattle.case_numbers.specs.Words.{after_name}
use Rattle.docket_rows.specs.Words.{CourtSetup, Rows, setup_of}
use Rattle.row_forms.specs.declared.numbered.NumberedRow.{NumberedRow}
use Rattle.row_forms.specs.Words.{names_of, rows_of}
use Rattle.row_forms.specs.declared.line.line.Line.{Line}
use Rattle.row_forms.specs.declared.line.line.Line.TheVariants as line
use Rattle.row_forms.specs.Line.Words.{line_read}
use Rattle.office_texts.specs.Run.Words.{docketed_after, docketed_then}
use Rattle.desk_numbers.specs.Strikes.Words.{is_struck}
use Rattle.desk_register.specs.declared.standing.Standing.{Standing}
use Rattle.desk_register.specs.Words.{Note, Run, docketed_by, most_clerks, next_number, note_in, row_in, run_by}
use Rattle.desk_entries.specs.Reported.{ReportsAreOfTheDocket, rows_standing, said_standing, standing_after, standing_as}
use Rattle.desk_register.proofs.CallerLemmas.{first_run, run_by-more, run_by-none, run_by-note, run_by-struck}

standing_after-append : (under : Standing) (kept some more : List (List ℕ)) → standing_after under kept (some ++ more) ≡ standing_after under kept some ++ standing_after under (kept ++ some) more
unfolding standing_after
standing_after-append under kept [] more = ap (λ (l : List (List ℕ)). standing_after under l more) (sym (append-nil kept))
standing_after-append under kept (entry ∷ some) more =
    ap (λ (l : List NumberedRow). standing_as (note_in entry) under kept entry ++ l) (standing_after-append under (kept ++ entry ∷ []) some more)
    ∙ sym (append_assoc (standing_as (note_in entry) under kept entry) (standing_after under (kept ++ entry ∷ []) some) _)
    ∙ ap (λ (l : List (List ℕ)). (standing_as (note_in entry) under kept entry ++ standing_after under (kept ++ entry ∷ []) some) ++ standing_after under l more) (append_assoc kept (entry ∷ []) some)

one_standing : (under : Standing) (kept : List (List ℕ)) (entry : List ℕ) → standing_after under kept (entry ∷ []) ≡ standing_as (note_in entry) under kept entry
unfolding standing_after
one_standing under kept entry = append-nil (standing_as (note_in entry) under kept entry)

pub rows_standing-more : (under : Standing) (kept : List (List ℕ)) (entry : List ℕ) → 0 < length kept → rows_standing under (kept ++ entry ∷ []) ≡ rows_standing under kept ++ standing_as (note_in entry) under kept entry
rows_standing-more under [] entry begun = absurd (omega (arith, begun))
rows_standing-more under (file ∷ later) entry begun =
    standing_after-append under (file ∷ []) later (entry ∷ [])
    ∙ ap (λ (l : List NumberedRow). standing_after under (file ∷ []) later ++ l) (one_standing under (file ∷ later) entry)

-- no rows of a court's file alone
pub none_standing : (under : Standing) (file : List ℕ) → rows_standing under (file ∷ []) ≡ []
unfolding standing_after
none_standing under file = refl

-- no row of an entry that is none, nor of one whose row is struck
pub standing_note : (under : Standing) (kept : List (List ℕ)) (entry : List ℕ) → IsSome (note_in entry) → standing_as (note_in entry) under kept entry ≡ []
standing_note under kept entry some = by (note_in entry) some
  where
    by : (n : Option Note) → IsSome n → standing_as n under kept entry ≡ []
    by None some = cc some
    by (Some note) some = refl

pub standing_row : (under : Standing) (kept : List (List ℕ)) (entry : List ℕ) (b : Bool) → note_in entry ≡ None → is_struck under.corrections (next_number kept) ≡ b
    → standing_as (note_in entry) under kept entry ≡ cond b [] (said_standing (run_by under kept).numbers.moved (next_number kept) (line_read most_clerks (names_of under.court) (after_name entry)))
standing_row under kept entry b none is =
    ap (λ (f : Option Note). standing_as f under kept entry) none
    ∙ ap (λ (s : Bool). cond s [] (said_standing (run_by under kept).numbers.moved (next_number kept) (line_read most_clerks (names_of under.court) (after_name entry)))) is

-- what rows docket after others
docketed-append : (setup : CourtSetup) (docketed : Rows) (some more : List NumberedRow) → docketed_after setup docketed (rows_of (some ++ more)) ≡ docketed_after setup (docketed_after setup docketed (rows_of some)) (rows_of more)
unfolding docketed_after
docketed-append setup docketed [] more = refl
docketed-append setup docketed (n ∷ some) more = docketed-append setup (docketed_then setup docketed n.row.work) some more

docketed-none : (setup : CourtSetup) (docketed : Rows) → docketed_after setup docketed [] ≡ docketed
unfolding docketed_after
docketed-none setup docketed = refl

-- what the row of an entry dockets is what the entry dockets
said_docketed : (under : Standing) (kept : List (List ℕ)) (entry : List ℕ) → 0 < length kept → note_in entry ≡ None → is_struck under.corrections (next_number kept) ≡ false
    → (said : Line) → line_read most_clerks (names_of under.court) (after_name entry) ≡ said
    → docketed_after (setup_of under.court) (docketed_by under kept) (rows_of (said_standing (run_by under kept).numbers.moved (next_number kept) said)) ≡ docketed_by under (kept ++ entry ∷ [])
unfolding docketed_after
said_docketed under kept entry begun none live line.Blank is = sym (ap (λ (r : Run). r.docketed) (run_by-none under kept entry begun none (ap row_in is)))
said_docketed under kept entry begun none live (line.Fault cause) is = sym (ap (λ (r : Run). r.docketed) (run_by-none under kept entry begun none (ap row_in is)))
said_docketed under kept entry begun none live (line.Row row) is = sym (ap (λ (r : Run). r.docketed) (run_by-more under kept entry row begun none live is))

one_docketed : (under : Standing) (kept : List (List ℕ)) (entry : List ℕ) → 0 < length kept
    → docketed_after (setup_of under.court) (docketed_by under kept) (rows_of (standing_as (note_in entry) under kept entry)) ≡ docketed_by under (kept ++ entry ∷ [])
one_docketed under kept entry begun = by_note (note_in entry) refl
  where
    setup : CourtSetup
    setup = setup_of under.court

    nothing : standing_as (note_in entry) under kept entry ≡ [] → (run_by under (kept ++ entry ∷ [])).docketed ≡ (run_by under kept).docketed
        → docketed_after setup (docketed_by under kept) (rows_of (standing_as (note_in entry) under kept entry)) ≡ docketed_by under (kept ++ entry ∷ [])
    nothing is same = ap (λ (l : List NumberedRow). docketed_after setup (docketed_by under kept) (rows_of l)) is ∙ docketed-none setup (docketed_by under kept) ∙ sym same

    by_struck : note_in entry ≡ None → (b : Bool) → is_struck under.corrections (next_number kept) ≡ b
        → docketed_after setup (docketed_by under kept) (rows_of (standing_as (note_in entry) under kept entry)) ≡ docketed_by under (kept ++ entry ∷ [])
    by_struck none true struck = nothing (standing_row under kept entry true none struck) (ap (λ (r : Run). r.docketed) (run_by-struck under kept entry begun none struck))
    by_struck none false live =
        ap (λ (l : List NumberedRow). docketed_after setup (docketed_by under kept) (rows_of l)) (standing_row under kept entry false none live)
        ∙ said_docketed under kept entry begun none live (line_read most_clerks (names_of under.court) (after_name entry)) refl

    by_note : (n : Option Note) → note_in entry ≡ n → docketed_after setup (docketed_by under kept) (rows_of (standing_as (note_in entry) under kept entry)) ≡ docketed_by under (kept ++ entry ∷ [])
    by_note (Some note) is = nothing (ap (λ (n : Option Note). standing_as n under kept entry) is) (ap (λ (r : Run). r.docketed) (run_by-note under kept entry begun (is_some is)))
      where
        is_some : note_in entry ≡ Some note → IsSome (note_in entry)
        is_some e = rw e refl
    by_note None is = by_struck is (is_struck under.corrections (next_number kept)) refl

all_docketed : (under : Standing) (kept later : List (List ℕ)) → 0 < length kept → docketed_after (setup_of under.court) (docketed_by under kept) (rows_of (standing_after under kept later)) ≡ docketed_by under (kept ++ later)
unfolding standing_after
all_docketed under kept [] begun = docketed-none (setup_of under.court) (docketed_by under kept) ∙ ap (docketed_by under) (sym (append-nil kept))
all_docketed under kept (entry ∷ later) begun =
    docketed-append (setup_of under.court) (docketed_by under kept) (standing_as (note_in entry) under kept entry) (standing_after under (kept ++ entry ∷ []) later)
    ∙ ap (λ (d : Rows). docketed_after (setup_of under.court) d (rows_of (standing_after under (kept ++ entry ∷ []) later))) (one_docketed under kept entry begun)
    ∙ all_docketed under (kept ++ entry ∷ []) later (omega (arith, begun, length-append kept (entry ∷ [])))
    ∙ ap (docketed_by under) (append_assoc kept (entry ∷ []) later)

-- the law
pub of_the_docket : ReportsAreOfTheDocket
of_the_docket under [] begun = absurd (omega (arith, begun))
of_the_docket under (file ∷ later) begun =
    ap (λ (r : Run). docketed_after (setup_of under.court) r.docketed (rows_of (standing_after under (file ∷ []) later))) (sym (first_run under file))
    ∙ all_docketed under (file ∷ []) later (omega arith)
