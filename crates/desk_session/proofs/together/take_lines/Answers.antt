use Rattle.std.proofs.Common.{◌≡◌, ◌∙◌, ◌+◌, ◌≤◌, ◌++◌, ◌∷◌, [], ℕ, List, length, refl, sym, ap, subst, arith}
use Rattle.std.specs.Prelude.{option_map}
use Rattle.std.proofs.lemmas.Result.{err_from_is_err_and}
use Rattle.desk_journal.specs.Words.{batch_of}
use Rattle.desk_session.specs.Lines.{lines_from, lines_of, numbered_from, numbered_lines, unfinished_from}
use Rattle.desk_session.specs.Stopped.{first_stopped, stopped_in}
use Rattle.desk_session.specs.Taken.{TakesLines, left_by}
use Rattle.desk_session.proofs.FaultLemmas.{line_stops}
use Rattle.desk_session.proofs.TakenLemmas.{all_left, more_taken, none_left, none_taken, one_left, one_taken}
use Rattle.desk_session.proofs.TogetherLemmas.{all_lines, front_finished, front_lines, front_with, goes_on, long_in, never_stops, number_within, stops_here}
use Rattle.desk_session.proofs.together.take_lines.Goals as goal

pub loop-split-init : goal.loop-split-init
unfolding lines_from unfinished_from
loop-split-init g c =
    let leaves = g.O.Register.leaves c.args.setup.now in
    let answers = g.O.Register.answers c.args.setup.now in
    let outcome = g.O.Register.outcome c.args.setup.now in (
      [],
      refl,
      refl,
      omega arith,
      λ kept stands. (
        none_taken leaves answers (g.O.Register.stands c.args.setup.now c.args.register.now) kept (batch_of c.args.batch.now.items) c.args.text.now.items stands,
        ap (λ (k : List (List ℕ)). first_stopped leaves answers outcome c.args.keep_refused k (numbered_lines c.args.input.now)) (none_left leaves answers kept),
      ),
    )

pub loop-split-preserved : goal.loop-split-preserved
loop-split-preserved g c =
    let (front, parts, finished, within, so_far) = c.loop-split.invariant in
    let leaves = g.O.Register.leaves c.args.setup.now in
    let answers = g.O.Register.answers c.args.setup.now in
    let outcome = g.O.Register.outcome c.args.setup.now in
    let number = c.loop-split.number in
    let rest = c.loop-split.rest.now in
    let line = c.in-Some.split.line.now in
    let end = c.in-Some.split.end in
    let after = c.in-Some.split.rest.now in
    let first = c.in-Some.ensures in
    let lines = front_lines front rest line end after finished first in
    let stands_then = g.O.Register.stands c.args.setup.now c.take_line.new.register in (
      front ++ (line ++ end ∷ []),
      front_with c.args.input.now front rest line end after parts first,
      front_finished front rest line end after first,
      subst (λ (n : ℕ). n + length after ≤ length c.args.input.now + 1) (sym c.number_after-number.ensures) (number_within number rest line end after (length c.args.input.now + 1) first within),
      λ kept stands.
          let (taken, stop) = so_far kept stands in
          let entries = kept ++ left_by leaves kept (lines_of front) in
          let one = c.in_ok-stopped.ensures.taken entries taken.stands in
          let here = sym (c.in_ok-stopped.ensures.stopped entries taken.stands) ∙ ap (option_map stopped_in) c.in-None.is in
          let then = ap (λ (l : List (List ℕ)). kept ++ left_by leaves kept l) lines ∙ all_left leaves answers kept (lines_of front) (line ∷ []) ∙ ap (λ (l : List (List ℕ)). entries ++ l) (one_left leaves answers entries line) in (
            subst (λ (l : List (List ℕ)). TakesLines leaves answers stands_then kept l (batch_of c.args.batch.now.items) (batch_of c.take_line.new.batch.items) c.args.text.now.items c.take_line.new.text.items) (sym lines)
                (more_taken leaves answers (g.O.Register.stands c.args.setup.now c.loop-split.register) stands_then kept (lines_of front) (line ∷ []) (batch_of c.args.batch.now.items) (batch_of c.loop-split.batch.items) (batch_of c.take_line.new.batch.items) c.args.text.now.items c.loop-split.text.items c.take_line.new.text.items taken
                (one_taken leaves answers stands_then entries line (batch_of c.loop-split.batch.items) (batch_of c.take_line.new.batch.items) c.loop-split.text.items c.take_line.new.text.items one)),
            subst (λ (n : ℕ). first_stopped leaves answers outcome c.args.keep_refused (kept ++ left_by leaves kept (lines_of (front ++ (line ++ end ∷ [])))) (numbered_from n [] after) ≡ first_stopped leaves answers outcome c.args.keep_refused kept (numbered_lines c.args.input.now)) (sym c.number_after-number.ensures)
                (goes_on leaves answers outcome c.args.keep_refused number rest line end after entries (kept ++ left_by leaves kept (lines_of (front ++ (line ++ end ∷ [])))) _ then first stop here),
          ),
    )

pub returns-in_err-stopped-clause-fault : goal.returns-in_err-stopped-clause-fault
returns-in_err-stopped-clause-fault g c =
    let (front, parts, finished, within, so_far) = c.loop-split.invariant in
    let p = err_from_is_err_and c.from_residual.result c.from_residual.ensures.1 in
    rw (p.1, p.2)
    (line_stops c.args.input.now c.in-Some.split.line.now _ (long_in c.args.input.now front c.loop-split.rest.now c.in-Some.split.line.now c.in-Some.split.end c.in-Some.split.rest.now parts finished c.in-Some.ensures) c.in_err-stopped.ensures.fault)

pub returns-in-Some-stopped-clause-stopped : goal.returns-in-Some-stopped-clause-stopped
returns-in-Some-stopped-clause-stopped g c = λ kept stands.
    let (front, parts, finished, within, so_far) = c.loop-split.invariant in
    let (taken, stop) = so_far kept stands in
    let leaves = g.O.Register.leaves c.args.setup.now in
    let entries = kept ++ left_by leaves kept (lines_of front) in
    let here = sym (c.in_ok-stopped.ensures.stopped entries taken.stands) ∙ ap (option_map stopped_in) c.in-Some-stopped.is in
    stops_here leaves (g.O.Register.answers c.args.setup.now) (g.O.Register.outcome c.args.setup.now) c.args.keep_refused c.loop-split.number c.loop-split.rest.now c.in-Some.split.line.now c.in-Some.split.end c.in-Some.split.rest.now entries _ (stopped_in c.in-Some-stopped.line) c.in-Some.ensures stop here

pub returns-clause-taken : goal.returns-clause-taken
returns-clause-taken g c = λ kept stands is.
    let (front, parts, finished, within, so_far) = c.loop-split.invariant in
    subst (λ (l : List (List ℕ)). TakesLines (g.O.Register.leaves c.args.setup.now) (g.O.Register.answers c.args.setup.now) (g.O.Register.stands c.args.setup.now c.loop-split.register) kept l (batch_of c.args.batch.now.items) (batch_of c.loop-split.batch.items) c.args.text.now.items c.loop-split.text.items)
    (all_lines c.args.input.now front c.loop-split.rest.now parts finished c.in_default.ensures) (so_far kept stands).0

pub returns-clause-stopped : goal.returns-clause-stopped
returns-clause-stopped g c = λ kept stands.
    let (front, parts, finished, within, so_far) = c.loop-split.invariant in
    let leaves = g.O.Register.leaves c.args.setup.now in
    never_stops leaves (g.O.Register.answers c.args.setup.now) (g.O.Register.outcome c.args.setup.now) c.args.keep_refused c.loop-split.number c.loop-split.rest.now [] 0 [] (kept ++ left_by leaves kept (lines_of front)) _ c.in_default.ensures (so_far kept stands).1
