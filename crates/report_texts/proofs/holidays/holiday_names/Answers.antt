use Rattle.std.proofs.lemmas.Bool.{both_ways}
use Rattle.toml.specs.View.{table_view}
use Rattle.court_file_text.proofs.CallerLemmas.{toml_of-text, toml_of-none}
use Rattle.report_texts.proofs.holidays.holiday_names.Goals as goal

pub returns-in-Ok-clause-names : goal.returns-in-Ok-clause-names
returns-in-Ok-clause-names c =
    let ok = c.in-Ok.ensures.ok in
    rw (toml_of-text c.args.file.now (table_view c.in-Ok.document) ok.0 ok.1) c.named_in_document.ensures.names

pub returns-in-Ok-clause-doubtful : goal.returns-in-Ok-clause-doubtful
returns-in-Ok-clause-doubtful c =
    let ok = c.in-Ok.ensures.ok in
    rw (toml_of-text c.args.file.now (table_view c.in-Ok.document) ok.0 ok.1) c.named_in_document.ensures.doubtful

pub returns-else-is_memory-clause-names : goal.returns-else-is_memory-clause-names
returns-else-is_memory-clause-names c =
    let refused = c.in-Err.ensures.refused (λ memory. both_ways _ c.if-is_memory.false (c.is_memory.ensures.1 memory)) in
    rw (toml_of-none c.args.file.now refused) c.new.ensures.names

pub returns-else-is_memory-clause-doubtful : goal.returns-else-is_memory-clause-doubtful
returns-else-is_memory-clause-doubtful c =
    let refused = c.in-Err.ensures.refused (λ memory. both_ways _ c.if-is_memory.false (c.is_memory.ensures.1 memory)) in
    rw (toml_of-none c.args.file.now refused) c.new.ensures.doubtful
