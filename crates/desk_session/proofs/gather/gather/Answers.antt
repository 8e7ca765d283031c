use Rattle.std.proofs.Common.{◌∙◌, ◌+◌, ℕ, List, [], ◌∷◌, ◌++◌, take, drop, get_or, refl, ap, sym, subst}
use Rattle.std.proofs.lemmas.List.{take-append-drop, take_more}
use Rattle.std.proofs.lemmas.Result.{err_from_is_err_and}
use Rattle.desk_journal.specs.Words.{batch_of}
use Rattle.desk_session.specs.Lines.{lines_from, unfinished_from}
use Rattle.desk_session.specs.Outcomes.{tally_after}
use Rattle.desk_session.specs.Taken.{TakesLines, left_by}
use Rattle.desk_session.specs.declared.outcome.Tally.{Tally}
use Rattle.desk_session.proofs.FaultLemmas.{stops_later}
use Rattle.desk_session.proofs.LineLemmas.{lines_from-append, unfinished_from-append}
use Rattle.desk_session.proofs.OutcomeLemmas.{counted-append, none_counted}
use Rattle.desk_session.proofs.TakenLemmas.{more_taken, none_taken}
use Rattle.desk_session.proofs.gather.gather.Goals as goal

pub bytes-init : goal.bytes-init
unfolding lines_from unfinished_from
bytes-init g c = record {
  begun = refl;
  taken = λ kept stands. none_taken (g.O.Register.leaves c.args.setup.now) (g.O.Register.answers c.args.setup.now) (g.O.Register.stands c.args.setup.now c.args.register.now) kept (batch_of c.args.batch.now.items) c.args.text.now.items stands;
  tally = λ kept stands. sym (none_counted (g.O.Register.leaves c.args.setup.now) (g.O.Register.outcome c.args.setup.now) c.args.tally.now kept);
}

pub bytes-preserved : goal.bytes-preserved
bytes-preserved g c =
    let leaves = g.O.Register.leaves c.args.setup.now in
    let answers = g.O.Register.answers c.args.setup.now in
    let so_far = g.O.Register.stands c.args.setup.now c.bytes.register in
    let after = g.O.Register.stands c.args.setup.now c.take_byte.new.register in
    let begun = c.args.begun.now.items in
    let read = take c.bytes.byte-index c.args.bytes.now in
    let byte = get_or c.args.bytes.now c.bytes.byte-index 0 in
    let longer = sym (take_more c.args.bytes.now c.bytes.byte-index 0 c.bytes-test.true) in
    let lines = ap (λ (b : List ℕ). lines_from begun read ++ lines_from b (byte ∷ [])) c.bytes.invariant.begun ∙ sym (lines_from-append begun read (byte ∷ [])) ∙ ap (lines_from begun) longer in
    record {
      begun = c.in_ok-take_byte.ensures.begun ∙ ap (λ (b : List ℕ). unfinished_from b (byte ∷ [])) c.bytes.invariant.begun ∙ sym (unfinished_from-append begun read (byte ∷ [])) ∙ ap (unfinished_from begun) longer;
      taken = λ kept stands.
          let first = c.bytes.invariant.taken kept stands in
          let second = c.in_ok-take_byte.ensures.taken (kept ++ left_by leaves kept (lines_from begun read)) first.stands in
          subst (λ (l : List (List ℕ)). TakesLines leaves answers after kept l (batch_of c.args.batch.now.items) (batch_of c.take_byte.new.batch.items) c.args.text.now.items c.take_byte.new.text.items) lines
          (more_taken leaves answers so_far after kept (lines_from begun read) (lines_from c.bytes.begun.items (byte ∷ [])) (batch_of c.args.batch.now.items) (batch_of c.bytes.batch.items) (batch_of c.take_byte.new.batch.items) c.args.text.now.items c.bytes.text.items c.take_byte.new.text.items first second);
      tally = λ kept stands.
          let first = c.bytes.invariant.taken kept stands in
          let outcome = g.O.Register.outcome c.args.setup.now in
          let before = c.args.tally.now in
          c.in_ok-take_byte.ensures.tally (kept ++ left_by leaves kept (lines_from begun read)) first.stands
          ∙ ap (λ (t : Tally). tally_after leaves outcome t (kept ++ left_by leaves kept (lines_from begun read)) (lines_from c.bytes.begun.items (byte ∷ []))) (c.bytes.invariant.tally kept stands)
          ∙ sym (counted-append leaves outcome before kept (lines_from begun read) (lines_from c.bytes.begun.items (byte ∷ [])))
          ∙ ap (tally_after leaves outcome before kept) lines;
    }

pub returns-in_err-take_byte-clause-fault : goal.returns-in_err-take_byte-clause-fault
returns-in_err-take_byte-clause-fault g c =
    let bytes = c.args.bytes.now in
    let place = c.bytes.byte-index in
    let p = err_from_is_err_and c.from_residual.result c.from_residual.ensures.1 in
    rw (p.1, p.2)
    (stops_later _ c.args.begun.now.items (take place bytes) (get_or bytes place 0 ∷ []) (drop (place + 1) bytes) bytes c.bytes.begun.items
    (sym (take-append-drop (place + 1) bytes) ∙ ap (λ (b : List ℕ). b ++ drop (place + 1) bytes) (take_more bytes place 0 c.bytes-test.true))
    c.bytes.invariant.begun _ c.in_err-take_byte.ensures.fault)
