use Rattle.std.proofs.Common.{◌≡◌, Some, rules, string_bytes}
use Rattle.toml.specs.View.{table_view}
use Rattle.court_file_text.specs.Words.{toml_of}
use Rattle.court_days.specs.Words.{desk_court_in}
use Rattle.court_writing.specs.Courts.{zone_text}
use Rattle.court_writing.specs.Written.{IsDocumentOf}
use Rattle.court_writing.proofs.writing.court_text.Goals as goal

pub returns-clause-written : goal.returns-clause-written
unfolding desk_court_in
returns-clause-written c =
    let read : toml_of (string_bytes c.in_ok-text.text) ≡ Some (table_view c.in_ok-file.file) = search rules in
    let document : IsDocumentOf c.args.court.state (zone_text c.args.court.zone) c.args.own.now c.args.from c.args.to (table_view c.in_ok-file.file) = search rules in
    (document.0, rw read document.1, document.2)
