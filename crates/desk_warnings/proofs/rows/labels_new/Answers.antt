use Rattle.std.proofs.Common.{◌∙◌, ap}
use Rattle.csv.specs.Records.{fields_of}
use Rattle.row_forms.specs.declared.line.line.Line.{Line}
use Rattle.row_forms.specs.Line.Words.{fields_read}
use Rattle.desk_warnings.specs.Rows.{labels_as}
use Rattle.desk_warnings.proofs.RowLemmas.{labels_same}
use Rattle.desk_warnings.proofs.rows.labels_new.Goals as goal

pub returns : goal.returns
returns c =
    c.labels_as.ensures
    ∙ labels_same c.in_ok-said.said (fields_of c.read_line.new.fields) (fields_read c.args.row.now) c.in_ok-said.ensures.field
    ∙ ap (labels_as (fields_read c.args.row.now)) c.in_ok-said.ensures.said
