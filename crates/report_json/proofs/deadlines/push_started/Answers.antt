use Rattle.std.proofs.Common.{codes, map}
use Rattle.report_json.specs.Deadlines.{event_value, started_fields}
use Rattle.report_json.specs.Periods.{grant_value, service_value}
use Rattle.report_json.specs.Times.{day_value}
use Rattle.report_json.specs.Values.{array_of, field, or_null}
use Rattle.report_json.proofs.TokenLemmas.{four_fields}
use Rattle.report_json.proofs.deadlines.push_started.Goals as goal

pub returns : goal.returns
unfolding started_fields
returns c =
    let row = c.args.row.now in
    let all =
    four_fields (field (codes "event") (event_value c.args.court.now.clock.zone row.event)) (field (codes "second_day") (or_null day_value row.second))
    (field (codes "service") (or_null service_value row.service)) (field (codes "grants") (array_of (map grant_value row.grants))) c.args.out.now in
    rw (← all, ← c.event.ensures, ← c.second.ensures, ← c.service.ensures, ← c.grants.ensures.value, ← c.in_ok-field.ensures, ← c.in_ok-field-2.ensures, ← c.in_ok-field-3.ensures) c.list_field.ensures
