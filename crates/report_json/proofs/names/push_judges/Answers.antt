use Rattle.std.proofs.Common.{codes, length}
use Rattle.report_json.specs.Names.{names_from}
use Rattle.report_json.proofs.TokenLemmas.{list_field_is}
use Rattle.report_json.proofs.names.push_judges.Goals as goal

pub returns : goal.returns
returns c =
    rw (← list_field_is (codes "judges") (names_from c.args.court.now.judges 0 (length c.args.court.now.judges)) c.args.out.now, ← c.judges.ensures.value, ← c.in_ok-key.ensures, ← c.in_ok-begin_array.ensures, ← c.in_ok-push_numbered.ensures)
    c.end_array.ensures
