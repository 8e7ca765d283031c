use Rattle.report_json.specs.Bookings.{calendar_fields, calendar_value}
use Rattle.report_json.proofs.TokenLemmas.{object_is}
use Rattle.report_json.proofs.bookings.JudgeCalendarToCalled.write_called.Goals as goal

pub returns : goal.returns
unfolding calendar_value
returns c =
    rw (← object_is (calendar_fields c.args.court.now c.args.labels.now c.args.self.now) c.args.out.now, ← c.in_ok-begin_object.ensures, ← c.in_ok-push_calendar.ensures)
    c.end_object.ensures
