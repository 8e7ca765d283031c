use Rattle.std.proofs.Common.{refl}
use Rattle.toml.specs.View.{table_view}
use Rattle.court_file_check.proofs.CheckLemmas.{all_faults}
use Rattle.court_file_check.proofs.check.check_document.Goals as goal

pub returns-then-has_any : goal.returns-then-has_any
returns-then-has_any c = (refl, all_faults (table_view c.args.file) _ c.in_ok-faults.ensures (rw c.deref.ensures.value at c.if-has_any.ensures.some))
