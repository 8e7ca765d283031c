use Rattle.std.proofs.Common.{◌≡◌, ◌+◌, ◌∙◌, ◌++◌, ◌∷◌, [], List, take, drop, take_all, take-append-drop, ap, sym, subst, arith}
use Rattle.std.proofs.lemmas.List.{take_more}
use mathlib.Core.List.{IsPrefix}
use Rattle.row_forms.specs.declared.row.Row.{Row}
use Rattle.clerk_workers.specs.Noted.{IsNoted}
use Rattle.clerk_workers.specs.Rows.{works_of}
use Rattle.clerk_workers.specs.Inside.Steps.{HasLeft}
use Rattle.clerk_workers.specs.Worked.{HasStopped, tally_of}
use Rattle.clerk_workers.proofs.WorkLemmas.{left_first, noted_all}
use Rattle.clerk_workers.proofs.serving.serve.Goals as goal

pub loop-row-preserved : goal.loop-row-preserved
loop-row-preserved g c =
    let rows = c.args.rows.now in
    let i = c.loop-row.row-index in
    let row = c.row-item.result in
    let noted : IsNoted g.K.Notes.hold g.L.NamesOffice.setup c.args.seat.now (take i rows ++ row ∷ []) c.take_row.new.notes c.take_row.new.seat = c.in_ok-take_row.ensures.noted c.args.seat.now (take i rows) c.loop-row.invariant in
    let more : take (i + 1) rows ≡ take i rows ++ row ∷ [] = take_more rows i row c.loop-row-test.true ∙ ap (λ (r : Row). take i rows ++ r ∷ []) (sym c.row-item.is) in
    let P : List Row → Type 0 = λ rs. IsNoted g.K.Notes.hold g.L.NamesOffice.setup c.args.seat.now rs c.take_row.new.notes c.take_row.new.seat in
    subst P (sym more) noted

pub returns-in_err-take_row-clause-stopped : goal.returns-in_err-take_row-clause-stopped
returns-in_err-take_row-clause-stopped g c =
    let setup = g.L.NamesOffice.setup in
    let rows = c.args.rows.now in
    let i = c.loop-row.row-index in
    let row = c.row-item.result in
    let start = c.args.seat.now in
    let more : take (i + 1) rows ≡ take i rows ++ row ∷ [] = take_more rows i row c.loop-row-test.true ∙ ap (λ (r : Row). take i rows ++ r ∷ []) (sym c.row-item.is) in
    let left : HasLeft setup start (take i rows ++ row ∷ []) c.take_row.new.seat = c.in_err-take_row.ensures.stopped start (take i rows) c.loop-row.invariant in
    let begins : IsPrefix (take i rows ++ row ∷ []) rows = (drop (i + 1) rows, ap (λ (rs : List Row). rs ++ drop (i + 1) rows) (sym more) ∙ take-append-drop (i + 1) rows) in
    let stopped : HasStopped setup start (works_of start.number rows) (tally_of c.take_row.new.seat) = left_first setup start (take i rows ++ row ∷ []) rows c.take_row.new.seat begins left in
    grind arith

pub returns-clause-served : goal.returns-clause-served
returns-clause-served g c =
    let rows = c.args.rows.now in
    let P : List Row → Type 0 = λ rs. IsNoted g.K.Notes.hold g.L.NamesOffice.setup c.args.seat.now rs c.loop-row.notes c.loop-row.seat in
    noted_all g.K.Notes.hold g.L.NamesOffice.setup c.args.seat.now rows c.loop-row.notes c.loop-row.seat (subst P (take_all c.loop-row.row-index rows (omega (arith, c.loop-row-test.false))) c.loop-row.invariant)
