use Rattle.std.proofs.Common.{◌≡◌, ◌∙◌, ◌++◌, List, All, ap, length, arith, refl, sym, subst}
use Rattle.clerk_seats.specs.Words.{SeatView, TallyView}
use Rattle.clerk_workers.specs.declared.progress.Progress.TheVariants.{Waiting, Done}
use Rattle.clerk_workers.specs.Workers.{WorkerView, notes_at, seats_at}
use Rattle.clerk_workers.specs.Noted.{AllNoted}
use Rattle.clerk_workers.specs.Runs.{AllStopped}
use Rattle.clerk_workers.proofs.RunLemmas.{run_noted, run_stopped, run_waiting, worked_long}
use Rattle.clerk_workers.proofs.noting.outcome.Goals as goal

pub unseat_all-requires-clause-room : goal.unseat_all-requires-clause-room
unseat_all-requires-clause-room g c =
    let long = worked_long g.K.Notes.hold g.L.NamesOffice.setup c.args.rows.now c.args.start.now.value.items c.args.workers.items c.requires.worked in
    let none : length c.args.seats.items ≡ 0 = ap length c.requires.seats.0 in
    omega (arith, long, none, c.requires.seats.1)

pub returns-then-all_are : goal.returns-then-all_are
returns-then-all_are g c =
    let waits : All (λ (w : WorkerView _). w.progress ≡ Waiting) c.args.workers.items = rw c.as_slice.ensures.value at (c.if-all_are.ensures.yes refl) in
    c.unseat_all.ensures ∙ (ap (λ (ss : List SeatView). ss ++ seats_at c.args.workers.items) c.requires.seats.0 ∙ run_waiting g.K.Notes.hold g.L.NamesOffice.setup c.args.rows.now c.args.start.now.value.items c.args.workers.items c.requires.worked waits)

pub leave_all-requires-clause-room_for_tallies : goal.leave_all-requires-clause-room_for_tallies
leave_all-requires-clause-room_for_tallies g c =
    let long = worked_long g.K.Notes.hold g.L.NamesOffice.setup c.args.rows.now c.args.start.now.value.items c.args.workers.items c.requires.worked in
    omega (arith, long, c.requires.tallies.1)

pub leave_all-requires-clause-room_for_notes : goal.leave_all-requires-clause-room_for_notes
leave_all-requires-clause-room_for_notes g c =
    let long = worked_long g.K.Notes.hold g.L.NamesOffice.setup c.args.rows.now c.args.start.now.value.items c.args.workers.items c.requires.worked in
    omega (arith, long, c.requires.notes.1)

pub returns-then-done : goal.returns-then-done
returns-then-done g c =
    let hold = g.K.Notes.hold in
    let setup = g.L.NamesOffice.setup in
    let rows = c.args.rows.now in
    let old = c.args.start.now.value.items in
    let done : All (λ (w : WorkerView _). w.progress ≡ Done) c.args.workers.items = rw c.as_slice-2.ensures.value at (c.all_are-done.ensures.yes c.if-done.true) in
    let all = run_noted hold setup rows old c.args.workers.items c.requires.worked done in
    let P : List TallyView → Type 0 = λ ts. AllNoted hold setup rows (seats_at old) (notes_at c.args.workers.items) ts in
    rw (c.leave_all.ensures.notes, c.leave_all.ensures.tallies) all

pub returns : goal.returns
returns g c =
    let setup = g.L.NamesOffice.setup in
    let old = c.args.start.now.value.items in
    let P : List TallyView → Type 0 = λ ts. AllStopped setup c.args.rows.now (seats_at old) ts in
    subst P (sym c.leave_all.ensures.tallies) (run_stopped g.K.Notes.hold setup c.args.rows.now old c.args.workers.items c.requires.worked)
