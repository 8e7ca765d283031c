use Rattle.std.proofs.Common.{◌≡◌, ◌∙◌, ◌<◌, [], ℕ, List, ap, arith, length, length-take, subst, sym, take, take_all}
use Rattle.std.specs.Prelude.{is_none}
use Rattle.desk_journal.specs.Words.{batch_of}
use Rattle.desk_entries.specs.Words.{note_in, row_entries}
use Rattle.desk_entries.proofs.CallerLemmas.{length_batch, no_rows_first, none_counted, one_counted}
use Rattle.desk_program.specs.AsOf.{HadCome}
use Rattle.desk_program.specs.declared.as_of.Moment.TheVariants.{Row}
use Rattle.desk_program.proofs.AsOfLemmas.{batch_taken, kept_all, kept_here, no_further, one_further, rows_counted}
use Rattle.desk_program.proofs.as_of.kept_at_row.Goals as goal
use Rattle.desk_program.proofs.as_of.kept_at_row.Goals.{then-is_row, else-is_row}

pub loop-place-init : goal.loop-place-init
loop-place-init c = record {
  begun = omega arith;
  counted = omega (arith, ap length (no_rows_first c.args.entries.now));
  had = λ place begun within. absurd (omega (arith, begun, within, length_batch (take 1 c.args.entries.now), length-take 1 c.args.entries.now));
}

pub loop-place-preserved : goal.loop-place-preserved
loop-place-preserved c =
    let entries = c.args.entries.now in
    let place = c.loop-place.place in
    let entry : List ℕ = c.index-entries-place.result.items in
    let more = rows_counted entries place c.index-entries-place.result c.loop-place.invariant.begun c.loop-place-test.true c.index-entries-place.is in
    let said : c.is_row.result ≡ is_none (note_in entry) = c.is_row.ensures ∙ ap (λ (e : List ℕ). is_none (note_in e)) c.deref.ensures.value in
    let fewer : length (row_entries (batch_of (take place entries))) < c.args.number = omega (arith, c.loop-place.invariant.counted, c.if-left-eq0.false) in
    let had = one_further c.args.number entries place c.loop-place-test.true fewer c.loop-place.invariant.had in
    elim c.if-is_row.branch [
      | then-is_row w ↦
          record { begun = omega arith; counted = omega (arith, more, c.loop-place.invariant.counted, w.left-is, one_counted entry 0 (sym said ∙ w.if-is_row.true)); had = had }
      | else-is_row w ↦
          record { begun = omega arith; counted = omega (arith, more, c.loop-place.invariant.counted, w.left-is, none_counted entry 0 (sym said ∙ w.if-is_row.false)); had = had }
    ]

pub returns-then-left-eq0 : goal.returns-then-left-eq0
returns-then-left-eq0 c = λ stamps.
    let entries = c.args.entries.now in
    let place = c.loop-place.place in
    kept_here (Row c.args.number) (batch_of entries) stamps place
    (omega (arith, length_batch entries, c.loop-place-test.true))
    (subst (λ (l : List (List ℕ)). HadCome (Row c.args.number) l []) (sym (batch_taken entries place)) c.loop-place.invariant.had)
    (λ h. no_further c.args.number entries place c.loop-place.invariant.begun c.loop-place-test.true (omega (arith, c.loop-place.invariant.counted, c.if-left-eq0.true)) h)

pub returns : goal.returns
returns c = λ stamps.
    let entries = c.args.entries.now in
    let place = c.loop-place.place in
    let all = take_all place entries (omega (arith, c.loop-place-test.false)) in
    let whole = take_all (length entries) (batch_of entries) (omega (arith, length_batch entries)) in
    kept_all (Row c.args.number) (batch_of entries) stamps (length entries)
    (sym (length_batch entries))
    (subst (λ (l : List (List ℕ)). HadCome (Row c.args.number) l []) (ap (λ l. batch_of l) all ∙ sym whole) c.loop-place.invariant.had)
