use Rattle.std.proofs.Common.{◌≡◌, ◌∙◌, ◌<◌, inl, inr, ℕ, List, [], ◌++◌, take, length, false, refl, sym, ap, subst, arith}
use Rattle.std.specs.Prelude.{IfSome}
use Rattle.std.proofs.lemmas.Grind.{common_steps}
use Rattle.std.proofs.lemmas.Result.{IfOk-weaker, err_from_is_err_and, on_ok_weaker}
use Rattle.std.proofs.KnownBytes.{Consumes-all, Consumes-kept, Consumes-nil, Consumes-trans}
use Rattle.program_streams.specs.Words.{has_failed, read_calls, watched}
use Rattle.desk_session.specs.declared.outcome.Tally.{Tally}
use Rattle.desk_session.specs.Lines.{lines_from, lines_of, unfinished_from, unfinished_of}
use Rattle.desk_session.specs.Outcomes.{no_lines, tally_after, tally_of}
use Rattle.desk_session.specs.Served.{IsPromised, IsServed}
use Rattle.desk_session.specs.Taken.{left_by}
use Rattle.desk_session.proofs.EndLemmas.{all_calls, counted_more, counted_none, ended_so, has_ended_now, has_failed_now}
use Rattle.desk_session.proofs.FaultLemmas.{stops_ends}
use Rattle.desk_session.proofs.LineLemmas.{lines_from-append, unfinished_from-append}
use Rattle.desk_session.proofs.OutcomeLemmas.{counted-append, none_counted}
use Rattle.desk_session.proofs.StampedLemmas.{stamped_more, stamped_none}
use Rattle.desk_session.proofs.PromiseLemmas.{none_read, none_served, promised_more, served_more, served_promised, unanswered, whole_input}
use Rattle.desk_session.proofs.session.serve_lines.Goals as goal

pub returns-in_err-buffer-clause-promised : goal.returns-in_err-buffer-clause-promised
returns-in_err-buffer-clause-promised g c = λ kept keeps stands. (
  [],
  Consumes-nil _,
  unanswered (g.O.Register.leaves c.args.setup.now) (g.O.Register.answers c.args.setup.now) kept (lines_of []) _ _ _
      (λ file left. inl (g.met.K.Keeper.rest c.args.keeper.now kept keeps file left)),
)

pub reads-init : goal.reads-init
unfolding lines_from unfinished_from
reads-init g c = (
  [],
  Consumes-nil _,
  c.new-begun.ensures.items,
  c.requires.writer_works,
  counted_none (read_calls c.args.reader.now),
  refl,
  stamped_none (g.K.Keeper.account c.args.keeper.now) (g.K.Keeper.has_stamps c.args.keeper.now),
  λ was. was,
  λ kept keeps stands. (
    c.new-tally.ensures ∙ sym (none_counted (g.O.Register.leaves c.args.setup.now) (g.O.Register.outcome c.args.setup.now) no_lines kept),
    none_served (g.O.Register.leaves c.args.setup.now) (g.O.Register.answers c.args.setup.now) (g.K.Keeper.keeps c.args.keeper.now) (g.O.Register.stands c.args.setup.now c.args.register.now) kept _ keeps stands,
  ),
)

pub returns-in-Err-clause-promised : goal.returns-in-Err-clause-promised
returns-in-Err-clause-promised g c = λ kept keeps stands.
    let (bytes, consumed, begun, working, calls, account, stamped, clean, served) = c.reads.invariant in (
      bytes,
      Consumes-kept _ _ _ bytes consumed c.in-Err.ensures.bytes,
      served_promised (g.O.Register.leaves c.args.setup.now) (g.O.Register.answers c.args.setup.now) (g.K.Keeper.keeps c.reads.keeper) (g.O.Register.stands c.args.setup.now c.reads.register) _ _ kept (lines_of bytes) _ _
          (g.met.K.Keeper.rest c.reads.keeper) (served kept keeps stands).1,
    )

pub returns-then-count-eq0-clause-promised : goal.returns-then-count-eq0-clause-promised
returns-then-count-eq0-clause-promised g c = λ kept keeps stands.
    let (bytes, consumed, begun, working, calls, account, stamped, clean, served) = c.reads.invariant in (
      bytes,
      none_read _ _ _ bytes c.read.new.buf c.in-Ok.count consumed c.in-Ok.ensures.bytes.0 c.if-count-eq0.true,
      served_promised (g.O.Register.leaves c.args.setup.now) (g.O.Register.answers c.args.setup.now) (g.K.Keeper.keeps c.reads.keeper) (g.O.Register.stands c.args.setup.now c.reads.register) _ _ kept (lines_of bytes) _ _
          (g.met.K.Keeper.rest c.reads.keeper) (served kept keeps stands).1,
    )

pub returns-then-count-eq0-clause-served : goal.returns-then-count-eq0-clause-served
returns-then-count-eq0-clause-served g c = λ kept keeps stands.
    let (bytes, consumed, begun, working, calls, account, stamped, clean, served) = c.reads.invariant in
    let room : 0 < length c.read.new.buf = grind (arith, common_steps) in
    let last = none_read _ _ _ bytes c.read.new.buf c.in-Ok.count consumed c.in-Ok.ensures.bytes.0 c.if-count-eq0.true in
    let all = Consumes-all _ _ bytes [] bytes last (c.in-Ok.ensures.bytes.1 c.if-count-eq0.true room) refl in
    on_ok_weaker c.ended.result (λ none. whole_input _ _ bytes all (served kept keeps stands).1) c.ended.ensures.finished

pub returns-then-count-eq0-clause-finished : goal.returns-then-count-eq0-clause-finished
returns-then-count-eq0-clause-finished g c =
    let (bytes, consumed, begun, working, calls, account, stamped, clean, served) = c.reads.invariant in
    let room : 0 < length c.read.new.buf = grind (arith, common_steps) in
    let last = none_read _ _ _ bytes c.read.new.buf c.in-Ok.count consumed c.in-Ok.ensures.bytes.0 c.if-count-eq0.true in
    let all = Consumes-all _ _ bytes [] bytes last (c.in-Ok.ensures.bytes.1 c.if-count-eq0.true room) refl in
    on_ok_weaker c.ended.result (λ none. whole_input _ (λ input. unfinished_of input ≡ []) bytes all (sym begun ∙ none)) c.ended.ensures.finished

pub returns-then-count-eq0-clause-working : goal.returns-then-count-eq0-clause-working
returns-then-count-eq0-clause-working g c =
    let (bytes, consumed, begun, working, calls, account, stamped, clean, served) = c.reads.invariant in
    on_ok_weaker c.ended.result (λ none. working) c.ended.ensures.finished

pub returns-in_err-serve_bytes-in-Ok-clause-promised : goal.returns-in_err-serve_bytes-in-Ok-clause-promised
returns-in_err-serve_bytes-in-Ok-clause-promised g c = λ kept keeps stands.
    let (bytes, consumed, begun, working, calls, account, stamped, clean, served) = c.reads.invariant in
    let leaves = g.O.Register.leaves c.args.setup.now in
    let answers = g.O.Register.answers c.args.setup.now in
    let more = take c.in-Ok.count c.read.new.buf in
    let (counted_so, first) = served kept keeps stands in
    let second = c.serve_bytes.ensures.promised (kept ++ left_by leaves kept (lines_of bytes)) (c.at.ensures.kept _ first.keeps) first.stands in
    let lines = ap (λ (b : List ℕ). lines_of bytes ++ lines_from b more) begun ∙ sym (lines_from-append [] bytes more) in (
      bytes ++ more,
      Consumes-trans _ _ _ bytes more consumed c.in-Ok.ensures.bytes.0,
      subst (λ (l : List (List ℕ)). IsPromised leaves answers kept l (g.W.Write.contents (watched c.args.writer.now)) (g.W.Write.contents (watched c.serve_bytes.new.writer)) (has_failed c.serve_bytes.new.writer ≡ false) (g.K.Keeper.may_leave c.serve_bytes.new.keeper)) lines
          (promised_more leaves answers (g.K.Keeper.keeps c.reads.keeper) (g.O.Register.stands c.args.setup.now c.reads.register) (has_failed c.serve_bytes.new.writer ≡ false) (g.K.Keeper.may_leave c.serve_bytes.new.keeper) kept (lines_of bytes) (lines_from c.reads.begun.items more) (g.W.Write.contents (watched c.args.writer.now)) (g.W.Write.contents (watched c.reads.writer)) (g.W.Write.contents (watched c.serve_bytes.new.writer)) first second),
    )

pub reads-preserved : goal.reads-preserved
reads-preserved g c =
    let (bytes, consumed, begun, working, calls, account, stamped, clean, served) = c.reads.invariant in
    let leaves = g.O.Register.leaves c.args.setup.now in
    let answers = g.O.Register.answers c.args.setup.now in
    let more = take c.in-Ok.count c.read.new.buf in
    let lines = ap (λ (b : List ℕ). lines_of bytes ++ lines_from b more) begun ∙ sym (lines_from-append [] bytes more) in
    let keeps_then : List (List ℕ) → Type 0 = g.K.Keeper.keeps c.serve_bytes.new.keeper in
    let stands_then : List (List ℕ) → Type 0 = g.O.Register.stands c.args.setup.now c.serve_bytes.new.register in (
      bytes ++ more,
      Consumes-trans _ _ _ bytes more consumed c.in-Ok.ensures.bytes.0,
      c.in_ok-serve_bytes-in-Ok.ensures.begun ∙ ap (λ (b : List ℕ). unfinished_from b more) begun ∙ sym (unfinished_from-append [] bytes more),
      c.in_ok-serve_bytes-in-Ok.ensures.working,
      counted_more (read_calls c.args.reader.now) c.reads.counter (read_calls c.reads.reader) (read_calls c.read.new.self) calls c.read.ensures.calls,
      c.serve_bytes.ensures.account ∙ c.at.ensures.account ∙ account,
      λ stamps has. stamped_more (g.K.Keeper.account c.args.keeper.now) (g.K.Keeper.account c.at.new.self) (g.K.Keeper.has_stamps c.reads.keeper) (g.K.Keeper.has_stamps c.serve_bytes.new.keeper) stamps (c.at.ensures.account ∙ account)
          (stamped stamps has) (λ between then_has. c.in_ok-serve_bytes-in-Ok.ensures.stamped between (c.at.ensures.stamped between then_has)),
      λ was. clean (c.at.ensures.clean (c.serve_bytes.ensures.clean was)),
      λ kept keeps stands.
          let (counted_so, first) = served kept keeps stands in
          let second = c.in_ok-serve_bytes-in-Ok.ensures.served (kept ++ left_by leaves kept (lines_of bytes)) (c.at.ensures.kept _ first.keeps) first.stands in
          let outcome = g.O.Register.outcome c.args.setup.now in
          let tally = c.in_ok-serve_bytes-in-Ok.ensures.tally (kept ++ left_by leaves kept (lines_of bytes)) first.stands in (
            tally
                ∙ ap (λ (t : Tally). tally_after leaves outcome t (kept ++ left_by leaves kept (lines_of bytes)) (lines_from c.reads.begun.items more)) counted_so
                ∙ sym (counted-append leaves outcome no_lines kept (lines_of bytes) (lines_from c.reads.begun.items more))
                ∙ ap (tally_of leaves outcome kept) lines,
            subst (λ (l : List (List ℕ)). IsServed leaves answers keeps_then stands_then kept l (g.W.Write.contents (watched c.args.writer.now)) (g.W.Write.contents (watched c.serve_bytes.new.writer))) lines
                (served_more leaves answers (g.K.Keeper.keeps c.reads.keeper) (g.O.Register.stands c.args.setup.now c.reads.register) keeps_then stands_then kept (lines_of bytes) (lines_from c.reads.begun.items more) (g.W.Write.contents (watched c.args.writer.now)) (g.W.Write.contents (watched c.reads.writer)) (g.W.Write.contents (watched c.serve_bytes.new.writer)) first second),
          ),
    )

pub returns-clause-promised : goal.returns-clause-promised
returns-clause-promised g c = λ kept keeps stands.
    let (bytes, consumed, begun, working, calls, account, stamped, clean, served) = c.reads.invariant in (
      bytes,
      consumed,
      served_promised (g.O.Register.leaves c.args.setup.now) (g.O.Register.answers c.args.setup.now) (g.K.Keeper.keeps c.reads.keeper) (g.O.Register.stands c.args.setup.now c.reads.register) _ _ kept (lines_of bytes) _ _
          (g.met.K.Keeper.rest c.reads.keeper) (served kept keeps stands).1,
    )

pub returns-then-count-eq0-clause-tally : goal.returns-then-count-eq0-clause-tally
returns-then-count-eq0-clause-tally g c = λ kept keeps stands.
    let (bytes, consumed, begun, working, calls, account, stamped, clean, served) = c.reads.invariant in
    let leaves = g.O.Register.leaves c.args.setup.now in
    let outcome = g.O.Register.outcome c.args.setup.now in
    let room : 0 < length c.read.new.buf = grind (arith, common_steps) in
    let last = none_read _ _ _ bytes c.read.new.buf c.in-Ok.count consumed c.in-Ok.ensures.bytes.0 c.if-count-eq0.true in
    let all = Consumes-all _ _ bytes [] bytes last (c.in-Ok.ensures.bytes.1 c.if-count-eq0.true room) refl in
    let count = (served kept keeps stands).0 in
    IfOk-weaker c.ended.result (λ t. t ≡ c.reads.tally) (λ t. IfSome (g.R.Read.remaining (watched c.args.reader.now)) (λ input. t ≡ tally_of leaves outcome kept (lines_of input)))
    (λ t is. whole_input _ (λ input. t ≡ tally_of leaves outcome kept (lines_of input)) bytes all (is ∙ count)) c.ended.ensures.tally

pub returns-in_err-buffer-clause-fault : goal.returns-in_err-buffer-clause-fault
returns-in_err-buffer-clause-fault g c =
    let p = err_from_is_err_and c.from_residual.result c.from_residual.ensures.1 in
    rw (p.1, p.2) ([], Consumes-nil _, tt)

pub returns-in-Err-clause-fault : goal.returns-in-Err-clause-fault
returns-in-Err-clause-fault g c =
    let (bytes, consumed, begun, working, calls, account, stamped, clean, served) = c.reads.invariant in
    (bytes, Consumes-kept _ _ _ bytes consumed c.in-Err.ensures.bytes, inl (has_failed_now _ _ c.read.result _ c.read.ensures.failed c.in-Err.is))

pub returns-then-count-eq0-clause-fault : goal.returns-then-count-eq0-clause-fault
returns-then-count-eq0-clause-fault g c =
    let (bytes, consumed, begun, working, calls, account, stamped, clean, served) = c.reads.invariant in
    let room : 0 < length c.read.new.buf = grind (arith, common_steps) in
    let last = none_read _ _ _ bytes c.read.new.buf c.in-Ok.count consumed c.in-Ok.ensures.bytes.0 c.if-count-eq0.true in
    ended_so c.read.new.self c.reads.writer _ _ bytes c.reads.begun.items c.ended.result last (has_ended_now _ _ c.read.result c.in-Ok.count c.read.new.buf c.read.ensures.ended c.in-Ok.is c.if-count-eq0.true room) begun c.ended.ensures.fault

pub returns-in_err-serve_bytes-in-Ok-clause-fault : goal.returns-in_err-serve_bytes-in-Ok-clause-fault
returns-in_err-serve_bytes-in-Ok-clause-fault g c =
    let (bytes, consumed, begun, working, calls, account, stamped, clean, served) = c.reads.invariant in
    let more = take c.in-Ok.count c.read.new.buf in
    let p = err_from_is_err_and c.from_residual-in_err-serve_bytes-in-Ok.result c.from_residual-in_err-serve_bytes-in-Ok.ensures.1 in
    rw (p.1, p.2)
    (bytes ++ more, Consumes-trans _ _ _ bytes more consumed c.in-Ok.ensures.bytes.0, stops_ends c.read.new.self c.serve_bytes.new.writer bytes more c.reads.begun.items _ begun c.in_err-serve_bytes-in-Ok.ensures.fault)

pub returns-clause-fault : goal.returns-clause-fault
returns-clause-fault g c =
    let (bytes, consumed, begun, working, calls, account, stamped, clean, served) = c.reads.invariant in
    (bytes, consumed, inr (all_calls (read_calls c.args.reader.now) c.reads.counter (read_calls c.reads.reader) calls (omega (arith, c.reads-test.false))))

pub returns-then-count-eq0-clause-stamped : goal.returns-then-count-eq0-clause-stamped
returns-then-count-eq0-clause-stamped g c = λ stamps has.
    let (bytes, consumed, begun, working, calls, account, stamped, clean, served) = c.reads.invariant in
    on_ok_weaker c.ended.result (λ none. stamped stamps has) c.ended.ensures.finished

pub returns-in_err-serve_bytes-in-Ok-clause-clean : goal.returns-in_err-serve_bytes-in-Ok-clause-clean
returns-in_err-serve_bytes-in-Ok-clause-clean g c =
    let (bytes, consumed, begun, working, calls, account, stamped, clean, served) = c.reads.invariant in
    λ was. clean (c.at.ensures.clean (c.serve_bytes.ensures.clean was))
