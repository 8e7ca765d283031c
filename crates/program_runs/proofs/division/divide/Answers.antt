use Rattle.std.proofs.Common.{◌≡◌, ◌∙◌, Some, None, sym, drop, append-nil, length, ◌≤◌, arith}
use Rattle.std.proofs.lemmas.List.{drop_all, take_all}
use Rattle.program_runs.specs.Division.{behind_divider}
use Rattle.program_runs.proofs.DivisionLemmas.{divided-here, divided-other, divided-nil}
use Rattle.program_runs.proofs.division.divide.Goals as goal

pub returns-in-Some-clause-court : goal.returns-in-Some-clause-court
returns-in-Some-clause-court c =
    let found : behind_divider c.loop-at.begins_line (drop c.loop-at.at c.args.input.now) ≡ Some c.in-Some.rows.now = rw c.split_at.ensures.back at (sym c.in-Some.ensures) in
    let here = divided-here c.loop-at.begins_line c.args.input.now c.loop-at.at c.in-Some.rows.now c.loop-at-test.true found in
    c.split_at.ensures.front ∙ sym (rw (here, append-nil) at c.loop-at.invariant.court)

pub returns-in-Some-clause-rows : goal.returns-in-Some-clause-rows
returns-in-Some-clause-rows c =
    let found : behind_divider c.loop-at.begins_line (drop c.loop-at.at c.args.input.now) ≡ Some c.in-Some.rows.now = rw c.split_at.ensures.back at (sym c.in-Some.ensures) in
    let here = divided-here c.loop-at.begins_line c.args.input.now c.loop-at.at c.in-Some.rows.now c.loop-at-test.true found in
    sym (rw here at c.loop-at.invariant.rows)

pub loop-at-preserved : goal.loop-at-preserved
loop-at-preserved c =
    let none : behind_divider c.loop-at.begins_line (drop c.loop-at.at c.args.input.now) ≡ None = rw c.split_at.ensures.back at (sym c.in_default.ensures) in
    let more = divided-other c.loop-at.begins_line c.args.input.now c.loop-at.at c.loop-at-test.true none in
    record { court = c.loop-at.invariant.court ∙ more.0; rows = c.loop-at.invariant.rows ∙ more.1 }

pub returns-clause-court : goal.returns-clause-court
returns-clause-court c =
    let past : length c.args.input.now ≤ c.loop-at.at = omega arith in
    sym (rw (drop_all _ _ past, divided-nil, append-nil, take_all _ _ past) at c.loop-at.invariant.court)

pub returns-clause-rows : goal.returns-clause-rows
returns-clause-rows c =
    let past : length c.args.input.now ≤ c.loop-at.at = omega arith in
    sym (rw (drop_all _ _ past, divided-nil) at c.loop-at.invariant.rows)
