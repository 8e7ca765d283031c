-- A row that is struck and then restored leaves the docket as it was.
use Rattle.std.proofs.Common.{◌≡◌, ◌∙◌, ◌+◌, ◌-◌, ◌<◌, ℕ, Bool, true, false, cond, List, [], ◌∷◌, ◌++◌, Option, Some, None, length, length-append, refl, sym, ap, arith}
use Rattle.std.specs.Prelude.{is_some, nat_eq, slice_index_or}
use Rattle.case_numbers.specs.Words.{after_name}
use Rattle.docket_rows.specs.Words.{Rows, setup_of}
use Rattle.office_texts.specs.Run.Words.{docketed_then}
use Rattle.row_forms.specs.Words.{names_of}
use Rattle.row_forms.specs.declared.line.line.Line.{Line}
use Rattle.row_forms.specs.declared.line.line.Line.TheVariants as line
use Rattle.row_forms.specs.declared.row.Work.{Work}
use Rattle.row_forms.specs.Line.Words.{line_read}
use Rattle.desk_numbers.specs.declared.given.Given.{Given}
use Rattle.desk_numbers.specs.declared.moved.Moved.{Moved}
use Rattle.desk_numbers.specs.Words.{NumbersView, given_by, kept_of, new_number, number_for, numbers_after, own_or, placed}
use Rattle.desk_numbers.specs.Strikes.Words.{CorrectionsView, is_among, is_struck}
use Rattle.desk_numbers.proofs.StrikesLemmas.CallerLemmas.{undone}
use Rattle.desk_register.specs.declared.standing.Standing.{Standing}
use Rattle.desk_register.specs.Words.{KeepsNumber, Run, StandsAfter, most_clerks, opening_run, reply_by_places, row_entries, row_restored, row_struck, run_after, run_by, run_entry, run_past, run_said}
use Rattle.desk_entries.specs.Laws.{ARestoreLeavesTheDocket, with_restore, with_strike}
use Rattle.desk_register.proofs.CallerLemmas.{at_before, at_end, row_entries-note, rows_keep, stands_after_note}

-- after each row there is what it gave, or what it keeps
one_given : (kept : List (Option Given)) (numbers : NumbersView) (number : ℕ) (at : Option Given) → (g : Option Given) × ((numbers_after kept numbers number at).given ≡ numbers.given ++ g ∷ [])
unfolding numbers_after
one_given kept numbers number None = (kept_of kept number, refl)
one_given kept numbers number (Some at) = (Some (record { case = at.case; counted = at.counted; number = number_for kept numbers.moved number at }), refl)

one_said : (under : Standing) (run : Run) (number : ℕ) (said : Line) → (g : Option Given) × ((run_said under run number said).numbers.given ≡ run.numbers.given ++ g ∷ [])
one_said under run number line.Blank = (kept_of under.corrections.kept number, refl)
one_said under run number (line.Fault cause) = (kept_of under.corrections.kept number, refl)
one_said under run number (line.Row row) = one_given under.corrections.kept run.numbers number (given_by row.work (reply_by_places under run.docketed run.numbers row.work))

one_entry : (under : Standing) (run : Run) (number : ℕ) (entry : List ℕ) → (g : Option Given) × ((run_entry under run number entry).numbers.given ≡ run.numbers.given ++ g ∷ [])
one_entry under run number entry = by (is_struck under.corrections number)
  where
    by : (b : Bool) → (g : Option Given) × ((cond b (run_past under run number) (run_said under run number (line_read most_clerks (names_of under.court) (after_name entry)))).numbers.given ≡ run.numbers.given ++ g ∷ [])
    by true = (kept_of under.corrections.kept number, refl)
    by false = one_said under run number (line_read most_clerks (names_of under.court) (after_name entry))

-- later rows change nothing of it
given_stays : (under : Standing) (run : Run) (number : ℕ) (entries : List (List ℕ)) (n : ℕ) → n < length run.numbers.given → slice_index_or (run_after under run number entries).numbers.given n None ≡ slice_index_or run.numbers.given n None
unfolding run_after
given_stays under run number [] n within = refl
given_stays under run number (entry ∷ entries) n within =
    let (g, is) = one_entry under run number entry in
    let longer : n < length (run_entry under run number entry).numbers.given = omega (arith, within, ap length is, length-append run.numbers.given (g ∷ [])) in
    given_stays under (run_entry under run number entry) (number + 1) entries n longer ∙ ap (λ (l : List (Option Given)). slice_index_or l n None) is ∙ at_before run.numbers.given g n within

-- two runs docketed the same, and what isn't at the place of its number is the same
record Alike (a b : Run) : Type 0 where
  docketed : a.docketed ≡ b.docketed
  moved : a.numbers.moved ≡ b.numbers.moved

-- a row that keeps a number gives it
owned : (o : Option Given) (own : Given) (new : ℕ) → KeepsNumber own o → own_or o new ≡ own.number
owned None own new keeps = absurd keeps
owned (Some given) own new keeps = keeps

-- a row gives what it gave, where it keeps that
numbers_alike : (before kept : List (Option Given)) (a b : NumbersView) (number : ℕ) (at : Option Given) → length a.given + 1 ≡ number → a.moved ≡ b.moved
    → ((own : Given) → kept_of (numbers_after before a number at).given number ≡ Some own → KeepsNumber own (kept_of kept number)) → (numbers_after before a number at).moved ≡ (numbers_after kept b number at).moved
unfolding numbers_after
numbers_alike before kept a b number None count moved keep = moved
numbers_alike before kept a b number (Some at) count moved keep =
    let given = number_for before a.moved number at in
    let own : Given = record { case = at.case; counted = at.counted; number = given } in
    let last : number - 1 ≡ length a.given = omega (arith, count) in
    let there : kept_of (a.given ++ Some own ∷ []) number ≡ Some own = ap (λ (n : ℕ). slice_index_or (a.given ++ Some own ∷ []) n None) last ∙ at_end a.given (Some own) in
    let same : number_for kept b.moved number at ≡ given = owned (kept_of kept number) own (new_number kept b.moved at) (keep own there) in
    let with : List Moved → ℕ → List Moved = λ (m : List Moved) (n : ℕ). cond (nat_eq at.number n) m (m ++ record { case = at.case; counted = at.counted; place = at.number; number = n } ∷ []) in
    ap (λ (m : List Moved). with m given) moved ∙ ap (λ (n : ℕ). with b.moved n) (sym same)

-- the same court with other corrections, by which the same rows are struck
module _ (under : Standing) (corrections : CorrectionsView) (struck : corrections.struck ≡ under.corrections.struck) where
  abbrev again : Standing
  again = record { court = under.court; corrections = corrections }

  said_alike : (a b : Run) (number : ℕ) (said : Line) → length a.numbers.given + 1 ≡ number → Alike a b
      → ((own : Given) → kept_of (run_said under a number said).numbers.given number ≡ Some own → KeepsNumber own (kept_of corrections.kept number)) → Alike (run_said under a number said) (run_said again b number said)
  said_alike a b number line.Blank count alike keep = record { docketed = alike.docketed; moved = alike.moved }
  said_alike a b number (line.Fault cause) count alike keep = record { docketed = alike.docketed; moved = alike.moved }
  said_alike a b number (line.Row row) count alike keep =
      let asked : Work = row.work in
      let given : Option Given = given_by asked (reply_by_places under a.docketed a.numbers asked) in
      let setup = setup_of under.court in
      let same : given ≡ given_by asked (reply_by_places again b.docketed b.numbers asked) =
      ap (λ (d : Rows). given_by asked (reply_by_places under d a.numbers asked)) alike.docketed ∙ ap (λ (m : List Moved). given_by asked (reply_by_places under b.docketed (record { given = b.numbers.given; moved = m }) asked)) alike.moved in
      record {
        docketed = ap (λ (d : Rows). docketed_then setup d (placed a.numbers.moved asked)) alike.docketed ∙ ap (λ (m : List Moved). docketed_then setup b.docketed (placed m asked)) alike.moved;
        moved = numbers_alike under.corrections.kept corrections.kept a.numbers b.numbers number given count alike.moved keep
            ∙ ap (λ (o : Option Given). (numbers_after corrections.kept b.numbers number o).moved) same;
      }

  entry_alike : (a b : Run) (number : ℕ) (entry : List ℕ) → length a.numbers.given + 1 ≡ number → Alike a b
      → ((own : Given) → kept_of (run_entry under a number entry).numbers.given number ≡ Some own → KeepsNumber own (kept_of corrections.kept number)) → Alike (run_entry under a number entry) (run_entry again b number entry)
  entry_alike a b number entry count alike keep = by (is_struck under.corrections number) (is_struck corrections number) (ap (λ (s : List ℕ). is_among s number) (sym struck)) keep
    where
      said : Line
      said = line_read most_clerks (names_of under.court) (after_name entry)

      by : (p q : Bool) → p ≡ q → ((own : Given) → kept_of (cond p (run_past under a number) (run_said under a number said)).numbers.given number ≡ Some own → KeepsNumber own (kept_of corrections.kept number))
          → Alike (cond p (run_past under a number) (run_said under a number said)) (cond q (run_past again b number) (run_said again b number said))
      by true true is here = record { docketed = alike.docketed; moved = alike.moved }
      by false false is here = said_alike a b number said count alike here
      by true false is here = cc is
      by false true is here = cc is

  all_alike : (a b : Run) (number : ℕ) (entries : List (List ℕ)) → length a.numbers.given + 1 ≡ number → Alike a b
      → ((n : ℕ) (own : Given) → 0 < n → n < number + length entries → kept_of (run_after under a number entries).numbers.given n ≡ Some own → KeepsNumber own (kept_of corrections.kept n))
      → Alike (run_after under a number entries) (run_after again b number entries)
  unfolding run_after
  all_alike a b number [] count alike keep = alike
  all_alike a b number (entry ∷ entries) count alike keep =
      let (g, is) = one_entry under a number entry in
      let next = run_entry under a number entry in
      let longer : length next.numbers.given ≡ number = omega (arith, count, ap length is, length-append a.numbers.given (g ∷ [])) in
      let here : (own : Given) → kept_of next.numbers.given number ≡ Some own → KeepsNumber own (kept_of corrections.kept number) = λ own has.
      keep number own (omega (arith, count)) (omega arith) (given_stays under next (number + 1) entries (number - 1) (omega (arith, longer, count)) ∙ has) in
      all_alike next (run_entry again b number entry) (number + 1) entries (omega (arith, longer)) (entry_alike a b number entry count alike here) (λ n own some within. keep n own some (omega (arith, within)))

-- the law
pub leaves_the_docket : ARestoreLeavesTheDocket
unfolding run_by
leaves_the_docket under kept strike restore row are stands live =
    let after = kept ++ strike ∷ [] in
    let struck = with_strike under kept row in
    let again = with_restore struck after row in
    let begun : 0 < length after = omega (arith, are.begun, length-append kept (strike ∷ [])) in
    let same : again.corrections.struck ≡ under.corrections.struck = (undone under.corrections.struck row).0 live in
    let once : StandsAfter after struck = stands_after_note under struck kept strike (row_struck (record { row = row })) are.begun are.struck stands are.strike_says stands.court refl in
    let rows_after : row_entries after ≡ row_entries kept = row_entries-note kept strike are.begun (ap is_some are.struck) in
    let rows : row_entries (after ++ restore ∷ []) ≡ row_entries kept = row_entries-note after restore begun (ap is_some are.restored) ∙ rows_after in
    let alike : Alike (run_after under (opening_run under) 1 (row_entries kept)) (run_after again (opening_run again) 1 (row_entries kept)) =
    all_alike under again.corrections same (opening_run under) (opening_run again) 1 (row_entries kept) refl (record { docketed = refl; moved = refl })
    (λ n own some within has. rows_keep struck after n own some (omega (arith, within, ap length rows_after)) has) in (
      stands_after_note struck again after restore (row_restored (record { row = row })) begun are.restored once are.restore_says once.court refl,
      same,
      ap (λ (r : List (List ℕ)). (run_after again (opening_run again) 1 r).docketed) rows ∙ sym alike.docketed,
      ap (λ (r : List (List ℕ)). (run_after again (opening_run again) 1 r).numbers.moved) rows ∙ sym alike.moved,
    )
