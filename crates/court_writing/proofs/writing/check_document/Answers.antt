use Rattle.std.proofs.Common.{◌≡◌, ◌∙◌, Ok, ap, rules}
use Rattle.toml.specs.View.{table_view}
use Rattle.court_file_text.specs.declared.key.Key.TheVariants.{Judges, Rooms}
use Rattle.court_days.specs.Words.{desk_court_of, file_of}
use Rattle.court_writing.specs.Courts.{zone_text}
use Rattle.court_writing.specs.Own.{texts}
use Rattle.court_writing.proofs.CourtLemmas.{names_read, read_once, zone_read}
use Rattle.court_writing.proofs.writing.check_document.Goals as goal

pub returns-then-is_of_years-clause-written : goal.returns-then-is_of_years-clause-written
returns-then-is_of_years-clause-written c =
    let document = table_view c.args.file.now in
    let read : desk_court_of document ≡ Ok (file_of c.in-Ok.read) = search rules in
    let zone = c.has_zone.ensures c.if-has_zone.true in
    let hours = c.is_of_years.ensures.hours c.if-is_of_years.true in
    let efiling = c.is_of_years.ensures.efiling c.if-is_of_years.true in
    let days = c.is_of_years.ensures.days c.if-is_of_years.true in
    let names = names_read document (file_of c.in-Ok.read) read in
    let judges = read_once document Judges _ _ names.0 (c.in_ok-judges.ensures.named c.if-judges.true) in
    let rooms = read_once document Rooms _ _ names.1 (c.in_ok-rooms.ensures.named c.if-rooms.true) in
    λ own is. (
      file_of c.in-Ok.read,
      read,
      record {
        zone_is = zone_read document (file_of c.in-Ok.read) (zone_text c.args.court.zone) read zone;
        opens = hours.0 ∙ is.opens;
        closes = hours.1 ∙ is.closes;
        efiling_until = efiling ∙ is.efiling_until;
        judges = judges ∙ ap texts c.deref.ensures.value ∙ is.judges;
        rooms = rooms ∙ ap texts c.deref-2.ensures.value ∙ is.rooms;
        days = days;
      },
    )
