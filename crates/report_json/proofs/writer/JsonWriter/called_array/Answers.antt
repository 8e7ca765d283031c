use Rattle.report_json.proofs.TokenLemmas.{array_is}
use Rattle.report_json.proofs.writer.JsonWriter.called_array.Goals as goal

pub returns : goal.returns
returns g c =
    rw (← array_is (g.T.ToCalled.value c.args.court.now c.args.labels.now c.args.case) c.args.items.now c.args.self.now, ← c.in_ok-begin_array.ensures, ← c.in_ok-called_items.ensures)
    c.end_array.ensures
