use Rattle.std.proofs.Common.{◌∙◌, Ok, ap, sym}
use Rattle.csv.specs.Records.{fields_of}
use Rattle.row_forms.specs.Words.{clerk_of}
use Rattle.row_forms.proofs.LineLemmas.ClerkLemmas.{clerk_first, clerk_unread, no_clerk}
use Rattle.row_forms.proofs.line.clerk.read_clerk.Goals as goal

pub returns-in-End : goal.returns-in-End
returns-in-End c = sym (no_clerk c.args.clerks c.args.bytes.now (c.in_ok-read_first.ensures.end (ap Ok c.in-End.is)))

pub returns-in-NotText : goal.returns-in-NotText
returns-in-NotText c =
    let (met, begins, no_text) = c.in_ok-read_first.ensures.no_text (ap Ok c.in-NotText.is) in
    sym (clerk_unread c.args.clerks c.args.bytes.now met begins.later begins.is no_text)

pub returns : goal.returns
returns c =
    let (begins, text) = c.in_ok-read_first.ensures.text (ap Ok c.in-Text.is) in
    c.clerk_of.ensures ∙ ap (clerk_of c.args.clerks) c.column.ensures ∙ sym (clerk_first c.args.clerks c.args.bytes.now (fields_of c.read_first.new.fields) begins.later begins.is text)
