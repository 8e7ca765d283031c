use Rattle.std.proofs.Common.{◌≡◌, ◌∙◌, ◌+◌, ℕ, List, ap, arith, length, sym}
use Rattle.desk_entries.specs.Words.{note_in, row_only}
use Rattle.desk_program.specs.EntryKind.{kind_of}
use Rattle.desk_program.proofs.LogLemmas.{counted_once}
use Rattle.desk_program.proofs.TimeOrderLemmas.{earlier_first, earlier_found, earlier_more, earlier_none}
use Rattle.desk_program.proofs.time_order.first_earlier.Goals as goal

pub loop-place-init : goal.loop-place-init
loop-place-init c = (omega arith, omega arith, earlier_first c.time_at-before.result c.args.entries.now c.args.stamps.now c.time_at-before.ensures)

pub returns-then-is_earlier : goal.returns-then-is_earlier
returns-then-is_earlier c =
    let (begun, few, so_far) = c.loop-place.invariant in
    earlier_found c.time_at-time.result c.loop-place.before c.loop-place.number c.kind_of-kind.result c.args.entries.now c.args.stamps.now c.loop-place.place c.index-entries-place.result _
    c.loop-place-test.true c.index-entries-place.is c.time_at-time.ensures (c.kind_of-kind.ensures ∙ ap (λ (e : List ℕ). kind_of (note_in e)) c.as_slice-entry.ensures.value) (sym c.is_earlier.ensures ∙ c.if-is_earlier.true) so_far

pub loop-place-preserved : goal.loop-place-preserved
loop-place-preserved c =
    let number = c.loop-place.number in
    let entry : List ℕ = c.index-entries-place.result.items in
    let (begun, few, so_far) = c.loop-place.invariant in
    let next : c.row_number_after-number.result ≡ number + length (row_only (note_in entry) entry) =
    c.row_number_after-number.ensures ∙ ap (λ (e : List ℕ). number + length (row_only (note_in e) e)) c.as_slice-entry.ensures.value in (
      omega (arith, begun),
      omega (arith, few, next, counted_once entry),
      earlier_more c.time_at-time.result c.loop-place.before number c.row_number_after-number.result c.args.entries.now c.args.stamps.now c.loop-place.place c.index-entries-place.result _
          c.loop-place-test.true c.index-entries-place.is c.time_at-time.ensures next (sym c.is_earlier.ensures ∙ c.if-is_earlier.false) so_far,
    )

pub returns : goal.returns
returns c =
    let (begun, few, so_far) = c.loop-place.invariant in
    earlier_none c.loop-place.before c.loop-place.number c.args.entries.now c.args.stamps.now c.loop-place.place _ (omega (arith, c.loop-place-test.false)) so_far
