use Rattle.std.proofs.Common.{◌≡◌, ◌+◌, ◌≤◌, ◌++◌, [], ℕ, length, map, subst, sym}
use Rattle.std.specs.Prelude.{None, option_map}
use Rattle.csv.specs.Records.{fields_of}
use Rattle.desk_session.specs.Words.{numbered_from, numbered_lines}
use Rattle.row_forms.specs.Words.{names_of}
use Rattle.row_input.specs.Reading.{faulty_in, faulty_of, placed_from, rows_of}
use Rattle.row_input.proofs.InputLemmas.{faulty_all, faulty_more, number_within, placed_all, placed_more, rows_all, rows_more}
use Rattle.row_input.proofs.reading.read_input.Goals as goal

pub loop-split-preserved : goal.loop-split-preserved
loop-split-preserved c =
    let clerks = c.args.clerks in
    let names = names_of c.args.court.now in
    let own = c.args.court.now.periods.triggers in
    let joined = c.args.joined in
    let order = c.args.order in
    let marked = c.args.marked in
    let header = option_map fields_of c.loop-split.reading.header in
    let then = option_map fields_of c.read.new.self.header in
    let line = c.in-Some.split.line.now in
    let rest = c.in-Some.split.rest.now in (
      subst (λ (n : ℕ). n + length rest ≤ length c.args.input.now + 1) (sym c.number_after-number.ensures)
          (number_within c.loop-split.number c.loop-split.rest.now line c.in-Some.split.end rest (length c.args.input.now + 1) c.in-Some.ensures c.loop-split.invariant.0),
      subst (λ (n : ℕ). c.read.new.self.rows.items ++ rows_of clerks names own order marked then (numbered_from n [] rest) ≡ rows_of clerks names own order marked None (numbered_lines c.args.input.now)) (sym c.number_after-number.ensures)
          (rows_more clerks names own order marked joined header then c.loop-split.number c.loop-split.rest.now line c.in-Some.split.end rest c.in-Some.ensures c.in_ok-read.ensures.header
          c.loop-split.reading.rows.items c.read.new.self.rows.items (rows_of clerks names own order marked None (numbered_lines c.args.input.now)) c.loop-split.invariant.1 c.in_ok-read.ensures.rows),
      placed_more clerks names own order marked joined header then c.loop-split.number c.loop-split.rest.now line c.in-Some.split.end rest c.in-Some.ensures c.in_ok-read.ensures.header
          c.loop-split.reading.placed.items c.read.new.self.placed.items (placed_from clerks names own order marked joined None [] c.args.input.now) c.loop-split.invariant.2 c.in_ok-read.ensures.placed,
      subst (λ (n : ℕ). map faulty_in c.read.new.self.faulty.items ++ faulty_of clerks names own order marked then (numbered_from n [] rest) ≡ faulty_of clerks names own order marked None (numbered_lines c.args.input.now)) (sym c.number_after-number.ensures)
          (faulty_more clerks names own order marked joined header then c.loop-split.number c.loop-split.rest.now line c.in-Some.split.end rest c.in-Some.ensures c.in_ok-read.ensures.header
          (map faulty_in c.loop-split.reading.faulty.items) (map faulty_in c.read.new.self.faulty.items) (faulty_of clerks names own order marked None (numbered_lines c.args.input.now)) c.loop-split.invariant.3 c.in_ok-read.ensures.faulty),
    )

pub returns-clause-rows : goal.returns-clause-rows
returns-clause-rows c =
    rows_all c.args.clerks (names_of c.args.court.now) c.args.court.now.periods.triggers c.args.order c.args.marked c.args.joined (option_map fields_of c.loop-split.reading.header) c.loop-split.number c.loop-split.rest.now c.in_default.ensures c.loop-split.reading.rows.items
    (rows_of c.args.clerks (names_of c.args.court.now) c.args.court.now.periods.triggers c.args.order c.args.marked None (numbered_lines c.args.input.now)) c.loop-split.invariant.1

pub returns-clause-placed : goal.returns-clause-placed
returns-clause-placed c =
    placed_all c.args.clerks (names_of c.args.court.now) c.args.court.now.periods.triggers c.args.order c.args.marked c.args.joined (option_map fields_of c.loop-split.reading.header) c.loop-split.number c.loop-split.rest.now c.in_default.ensures c.loop-split.reading.placed.items
    (placed_from c.args.clerks (names_of c.args.court.now) c.args.court.now.periods.triggers c.args.order c.args.marked c.args.joined None [] c.args.input.now) c.loop-split.invariant.2

pub returns-clause-faulty : goal.returns-clause-faulty
returns-clause-faulty c =
    faulty_all c.args.clerks (names_of c.args.court.now) c.args.court.now.periods.triggers c.args.order c.args.marked c.args.joined (option_map fields_of c.loop-split.reading.header) c.loop-split.number c.loop-split.rest.now c.in_default.ensures (map faulty_in c.loop-split.reading.faulty.items)
    (faulty_of c.args.clerks (names_of c.args.court.now) c.args.court.now.periods.triggers c.args.order c.args.marked None (numbered_lines c.args.input.now)) c.loop-split.invariant.3
