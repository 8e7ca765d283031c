use Rattle.report_json.specs.Names.{name_value}
use Rattle.report_json.proofs.TokenLemmas.{array_is}
use Rattle.report_json.proofs.names.push_names_of.Goals as goal

pub returns : goal.returns
returns c =
    rw (← array_is (name_value c.args.court.now.judges) c.args.judges.now c.args.out.now, ← c.in_ok-begin_array.ensures, ← c.in_ok-push_each.ensures)
    c.end_array.ensures
