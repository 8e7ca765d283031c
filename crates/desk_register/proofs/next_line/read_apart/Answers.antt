use Rattle.std.proofs.Common.{◌≡◌, ◌∙◌, None, Some, sym}
use Rattle.csv.specs.Records.{fields_of}
use Rattle.row_forms.specs.Words.{names_of}
use Rattle.row_forms.specs.Line.Words.{fields_read}
use Rattle.desk_register.specs.CaseLines.{reading_of}
use Rattle.desk_register.specs.Subjects.{named_in}
use Rattle.desk_register.proofs.NextLineLemmas.{apart_none, apart_some, named_lacks}
use Rattle.desk_register.proofs.next_line.read_apart.Goals as goal

pub returns-in_ok-said-in-Some : goal.returns-in_ok-said-in-Some
returns-in_ok-said-in-Some c =
    let names = names_of c.args.court.now in
    let cases = c.args.cases.now in
    let line = c.args.line.now in
    let text = (reading_of names cases line).text in
    let read = c.in_ok-said.ensures in
    let named : named_in names text ≡ Some c.in-Some.named = sym (c.in_ok-named.ensures text read.said read.lacking_are) ∙ c.in-Some.is in
    let (column, lacks) = named_lacks names text c.in-Some.named named in
    let fields : fields_of c.read_named.new.fields ≡ fields_read text = read.lacking_are column (read.said ∙ lacks) in
    apart_some names cases line c.in_ok-said-in-Some.said c.in_ok-said.name c.in-Some.named named (c.in_ok-said-in-Some.ensures.said text read.said fields) read.name

pub returns-in-None : goal.returns-in-None
returns-in-None c =
    let names = names_of c.args.court.now in
    let cases = c.args.cases.now in
    let line = c.args.line.now in
    let read = c.in_ok-said.ensures in
    let none : named_in names (reading_of names cases line).text ≡ None = sym (c.in_ok-named.ensures (reading_of names cases line).text read.said read.lacking_are) ∙ c.in-None.is in
    apart_none names cases line (fields_of c.read_named.new.fields) (c.in_ok-said.said, c.in_ok-said.name) read none
