use Rattle.std.proofs.lemmas.Result.{err_from_is_err_and}
use Rattle.court_days.specs.Court.Reading.{and_date}
use Rattle.court_file_text.proofs.CallerLemmas.{goes_on, fails, is_done}
use Rattle.court_days.proofs.court.reading.dates_of.Goals as goal

pub returns-in_err-add_date : goal.returns-in_err-add_date
returns-in_err-add_date c =
    let p = err_from_is_err_and c.from_residual-in_err-add_date.result c.from_residual-in_err-add_date.ensures.1 in
    rw (p.1, p.2) (fails c.in_err-add_date.field-0.0 (and_date c.args.key c.args.from c.args.to) c.loop-value.dates c.args.values.now c.loop-value.value-index c.value-item.result _ c.loop-value-test.true c.value-item.is c.in_err-add_date.ensures c.loop-value.invariant)

pub loop-value-preserved : goal.loop-value-preserved
loop-value-preserved c = goes_on (and_date c.args.key c.args.from c.args.to) c.loop-value.dates c.add_date.new.dates c.args.values.now c.loop-value.value-index c.value-item.result _ c.loop-value-test.true c.value-item.is c.in_ok-add_date.ensures c.loop-value.invariant

pub returns : goal.returns
returns c = is_done (and_date c.args.key c.args.from c.args.to) c.loop-value.dates c.args.values.now c.loop-value.value-index _ c.loop-value-test.false c.loop-value.invariant
