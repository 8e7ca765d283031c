use Rattle.toml.proofs.Views.{table_get}
use Rattle.court_file_text.proofs.reading.value_if_there.Goals as goal

pub returns : goal.returns
returns c =
    rw (← c.name.ensures) (table_get c.get.result c.name.result.now c.args.file.now.entries c.get.ensures.value)
