use Rattle.std.proofs.Common.{Ok, Err, ap, sym}
use Rattle.csv.specs.Records.{fields_of}
use Rattle.row_forms.specs.declared.fault.RowCause.TheVariants.{NotText}
use Rattle.row_forms.specs.Words.{names_of}
use Rattle.row_forms.proofs.RowsLemmas.{row_of_no_text}
use Rattle.row_forms.proofs.LineLemmas.LineLemmas.{says_first}
use Rattle.row_forms.proofs.line.line.read_line.Goals as goal

pub returns-in-NotText-clause-said : goal.returns-in-NotText-clause-said
returns-in-NotText-clause-said c =
    let (met, begins, no_text) = c.in_ok-read_first.ensures.no_text (ap Ok c.in-NotText.is) in
    says_first c.args.clerks (names_of c.args.court.now) c.args.bytes.now met begins.later (Err NotText) begins.is (row_of_no_text c.args.clerks (names_of c.args.court.now) met no_text)

pub returns-in-Ok-clause-said : goal.returns-in-Ok-clause-said
returns-in-Ok-clause-said c =
    let (begins, text) = c.in_ok-read_first.ensures.text (ap Ok c.in-Text.is) in
    says_first c.args.clerks (names_of c.args.court.now) c.args.bytes.now (fields_of c.read_first.new.fields) begins.later (Ok c.in-Ok.row) begins.is (sym c.in-Ok.ensures)

pub returns-in-Err-clause-said : goal.returns-in-Err-clause-said
returns-in-Err-clause-said c =
    let (begins, text) = c.in_ok-read_first.ensures.text (ap Ok c.in-Text.is) in
    says_first c.args.clerks (names_of c.args.court.now) c.args.bytes.now (fields_of c.read_first.new.fields) begins.later (Err c.in-Err.cause) begins.is (sym c.in-Err.ensures)
