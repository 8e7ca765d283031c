use Rattle.std.proofs.Common.{◌≡◌, ◌∙◌, ap}
use Rattle.std.specs.Str.{trim}
use Rattle.std.proofs.lemmas.Str.{is_utf8-from_IsUtf8}
use Rattle.court_writing.proofs.NamesLemmas.{no_text}
use Rattle.court_writing.proofs.names.add_line.Goals as goal

pub returns-in-Ok : goal.returns-in-Ok
returns-in-Ok c =
    let name : c.trim.result.now ≡ trim c.args.line.now = c.trim.ensures.trim ∙ ap trim c.in-Ok.ensures.cases.0 in
    rw (is_utf8-from_IsUtf8 c.args.line.now c.in-Ok.ensures.cases.1) (rw name at c.add_name.ensures)

pub returns-in-Err : goal.returns-in-Err
returns-in-Err c = no_text _ _ c.args.line.now c.in-Err.ensures.cases.0
