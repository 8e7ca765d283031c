use Rattle.std.proofs.Common.{refl}
use Rattle.std.proofs.lemmas.Bool.{both_ways}
use Rattle.toml.specs.View.{table_view}
use Rattle.court_days.specs.Words.{desk_court_in}
use Rattle.court_file_text.proofs.CallerLemmas.{toml_of-text, toml_of-none}
use Rattle.court_file_check.proofs.CheckLemmas.{of_document}
use Rattle.court_file_check.proofs.check.check_file.Goals as goal

pub returns-in_ok-checked-in-Ok : goal.returns-in_ok-checked-in-Ok
returns-in_ok-checked-in-Ok c =
    let ok = c.in-Ok.ensures.ok in
    of_document c.args.asked.now c.args.bytes.now (table_view c.in-Ok.file) _ (toml_of-text c.args.bytes.now (table_view c.in-Ok.file) ok.0 ok.1) c.in_ok-checked-in-Ok.ensures

pub returns-else-is_memory : goal.returns-else-is_memory
unfolding desk_court_in
returns-else-is_memory c =
    let refused = c.in-Err.ensures.refused (λ memory. both_ways _ c.if-is_memory.false (c.is_memory.ensures.1 memory)) in
    rw (toml_of-none c.args.bytes.now refused) refl
