use Rattle.court_file_check.specs.Inside.Names.{texts_of}
use Rattle.court_writing.proofs.NamesLemmas.{line_fails, line_goes_on, lines_done}
use Rattle.court_writing.proofs.names.names_of.Goals as goal

pub loop-place-preserved : goal.loop-place-preserved
loop-place-preserved c =
    line_goes_on (texts_of c.loop-place.names.items) (texts_of c.add_line.new.names.items) _ c.args.lines.now c.loop-place.place _ c.loop-place-test.true c.in-Ok.ensures c.loop-place.invariant

pub returns-in-Err : goal.returns-in-Err
returns-in-Err c =
    line_fails (texts_of c.loop-place.names.items) _ c.args.lines.now c.loop-place.place _ c.in-Err.fault c.loop-place-test.true c.in-Err.ensures c.loop-place.invariant

pub returns : goal.returns
returns c = lines_done (texts_of c.loop-place.names.items) _ c.args.lines.now c.loop-place.place c.loop-place-test.false c.loop-place.invariant
