use Rattle.row_forms.proofs.CutLemmas.{cut_is}
use Rattle.row_forms.proofs.fields.cut.cut_at.Goals as goal

pub returns : goal.returns
returns c = cut_is c.args.mark c.args.text.now c.split_once.result c.split_once.ensures.cases c.requires
