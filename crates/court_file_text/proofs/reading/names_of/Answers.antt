use Rattle.std.proofs.Common.{arith}
use Rattle.std.proofs.lemmas.Result.{err_from_is_err_and}
use Rattle.court_file_text.specs.Reading.{and_name_by}
use Rattle.court_file_text.proofs.ReadingLemmas.{goes_on, fails, is_done}
use Rattle.court_file_text.proofs.reading.names_of.Goals as goal

pub returns-in_err-add_name_by-clause-value : goal.returns-in_err-add_name_by-clause-value
returns-in_err-add_name_by-clause-value c =
    let p = err_from_is_err_and c.from_residual.result c.from_residual.ensures.1 in
    rw (p.1, p.2) (fails c.in_err-add_name_by.field-0.0 (and_name_by c.args.desk c.args.key) c.loop-value.names c.args.values.now c.loop-value.value-index c.value-item.result _ c.loop-value-test.true c.value-item.is c.in_err-add_name_by.ensures.value c.loop-value.invariant.same)

pub loop-value-preserved : goal.loop-value-preserved
loop-value-preserved c = record {
  same = goes_on (and_name_by c.args.desk c.args.key) c.loop-value.names c.add_name_by.new.names c.args.values.now c.loop-value.value-index c.value-item.result _ c.loop-value-test.true c.value-item.is c.in_ok-add_name_by.ensures.value c.loop-value.invariant.same;
  most = omega (arith, c.in_ok-add_name_by.ensures.one_more, c.loop-value.invariant.most);
}

pub returns-clause-value : goal.returns-clause-value
returns-clause-value c = is_done (and_name_by c.args.desk c.args.key) c.loop-value.names c.args.values.now c.loop-value.value-index _ c.loop-value-test.false c.loop-value.invariant.same
