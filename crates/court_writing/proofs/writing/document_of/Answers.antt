use Rattle.toml.specs.View.{table_view}
use Rattle.court_file_text.proofs.CallerLemmas.{toml_of-text}
use Rattle.court_writing.proofs.writing.document_of.Goals as goal

pub returns-in-Ok-clause-read : goal.returns-in-Ok-clause-read
returns-in-Ok-clause-read c =
    let ok = c.in-Ok.ensures.ok in
    toml_of-text c.args.text.now (table_view c.in-Ok.file) ok.0 ok.1
