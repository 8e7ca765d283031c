use Rattle.std.proofs.Common.{◌≡◌, ◌∙◌, ◌+◌, ◌<◌, ◌++◌, ◌∷◌, [], ℕ, List, ap, length, sym, subst, arith, take, take_all}
use Rattle.std.specs.Prelude.{Vec}
use Rattle.std.specs.declared.alloc.Global.{Global}
use Rattle.std.specs.Io.KnownBytes.{Appends}
use Rattle.std.proofs.KnownBytes.{Appends-nil, Appends-trans}
use Rattle.std.proofs.lemmas.List.{length-take-le}
use Rattle.std.proofs.lemmas.Result.{on_ok_weaker}
use Rattle.desk_journal.specs.Words.{batch_of}
use Rattle.program_streams.specs.Words.{watched}
use Rattle.desk_entries.specs.Words.{next_number, note_in, row_entries, row_only, rows_written, standing_file}
use Rattle.desk_entries.proofs.CallerLemmas.{begun_batch, length_batch, next_number-few, number_more, take_batch}
use Rattle.desk_program.specs.Rows.{head_of, written_rows}
use Rattle.desk_program.proofs.RowsLemmas.{number_first, rows_first, rows_more}
use Rattle.desk_program.proofs.rows.write_rows.Goals as goal

pub loop-place-init : goal.loop-place-init
loop-place-init g c =
    let head : List ℕ = head_of (standing_file (batch_of c.args.entries.now)) in (
      omega arith,
      c.requires.works,
      [],
      Appends-nil (g.W.Write.contents (watched c.args.writer.now)),
      rows_first c.args.under.now c.args.moved.now head c.push_file.new.text.items c.args.entries.now
          (c.in_ok-push_file.ensures
          ∙ ap (λ (t : List ℕ). t ++ head_of c.standing_file.result.now) c.new-text.ensures.items
          ∙ ap head_of c.standing_file.ensures),
      number_first c.args.entries.now,
    )

pub push_entry-requires : goal.push_entry-requires
push_entry-requires g c =
    let (begun, working, written, appends, so_far, next) = c.loop-place.invariant in
    let taken = take c.loop-place.place c.args.entries.now in
    let some : 0 < length (batch_of taken) = begun_batch c.args.entries.now c.loop-place.place begun c.loop-place-test.true in
    let short : length taken ≡ c.loop-place.place = length-take-le c.loop-place.place c.args.entries.now (omega (arith, c.loop-place-test.true)) in
    record { few = omega (arith, next, next_number-few (batch_of taken) some, length_batch taken, short, c.loop-place-test.true, c.requires.few) }

pub loop-place-preserved : goal.loop-place-preserved
loop-place-preserved g c =
    let under = c.args.under.now in
    let moved = c.args.moved.now in
    let head : List ℕ = head_of (standing_file (batch_of c.args.entries.now)) in
    let kept : List (List ℕ) = batch_of (take c.loop-place.place c.args.entries.now) in
    let entry : List ℕ = c.index-entries-place.result.items in
    let (begun, working, written, appends, so_far, next) = c.loop-place.invariant in
    let (front, more, parts) = c.in_ok-put_if_long.ensures.written in
    let some : 0 < length kept = begun_batch c.args.entries.now c.loop-place.place begun c.loop-place-test.true in
    let added : c.push_entry.new.text.items ≡ c.loop-place.text.items ++ rows_written under moved c.loop-place.number (row_only (note_in entry) entry) =
    c.in_ok-number.ensures.text ∙ ap (λ (e : List ℕ). c.loop-place.text.items ++ rows_written under moved c.loop-place.number (row_only (note_in e) e)) c.deref.ensures.value in
    let after : batch_of (take (c.loop-place.place + 1) c.args.entries.now) ≡ kept ++ entry ∷ [] = take_batch c.args.entries.now c.loop-place.place c.index-entries-place.result c.loop-place-test.true c.index-entries-place.is in (
      omega (arith, begun),
      c.in_ok-put_if_long.ensures.working,
      written ++ front,
      Appends-trans (g.W.Write.contents (watched c.args.writer.now)) (g.W.Write.contents (watched c.loop-place.writer)) (g.W.Write.contents (watched c.put_if_long.new.writer)) written front appends more,
      rows_more under moved written c.loop-place.text.items c.push_entry.new.text.items front c.put_if_long.new.text.items head kept entry c.loop-place.number some next so_far added parts
          ∙ ap (λ (l : List (List ℕ)). head ++ rows_written under moved 1 (row_entries l)) (sym after),
      number_more kept entry c.loop-place.number c.in_ok-number.number some next (c.in_ok-number.ensures.next ∙ ap (λ (e : List ℕ). c.loop-place.number + length (row_only (note_in e) e)) c.deref.ensures.value) ∙ ap next_number (sym after),
    )

pub returns : goal.returns
returns g c =
    let under = c.args.under.now in
    let moved = c.args.moved.now in
    let head : List ℕ = head_of (standing_file (batch_of c.args.entries.now)) in
    let (begun, working, written, appends, so_far, next) = c.loop-place.invariant in
    let all : take c.loop-place.place c.args.entries.now ≡ c.args.entries.now = take_all c.loop-place.place c.args.entries.now (omega (arith, c.loop-place-test.false)) in
    let whole : written ++ c.loop-place.text.items ≡ written_rows under moved (batch_of c.args.entries.now) =
    so_far
    ∙ ap (λ (l : List (Vec ℕ Global)). head ++ rows_written under moved 1 (row_entries (batch_of l))) all in
    record {
      written = on_ok_weaker c.put.result
          (λ last. subst (Appends (g.W.Write.contents (watched c.args.writer.now)) (g.W.Write.contents (watched c.put.new.writer))) whole
          (Appends-trans (g.W.Write.contents (watched c.args.writer.now)) (g.W.Write.contents (watched c.loop-place.writer)) (g.W.Write.contents (watched c.put.new.writer)) written c.loop-place.text.items appends last))
          c.put.ensures.written;
    }
