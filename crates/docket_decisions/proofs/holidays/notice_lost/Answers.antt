use Rattle.std.proofs.Common.{◌∙◌, ap, filter}
use Rattle.court_days.specs.declared.holiday_list.HolidayList.TheVariants.{Federal}
use Rattle.court_days.specs.Words.{DaysView, add_holiday}
use Rattle.docket_rows.specs.Words.{least, lacks_notice, all_booked}
use Rattle.docket_decisions.proofs.holidays.notice_lost.Goals as goal

pub returns-in_ok-days-in-Federal : goal.returns-in_ok-days-in-Federal
returns-in_ok-days-in-Federal g c =
    let bookings = all_booked c.args.rules.now (g.S.Sight.parts c.args.sight.now) in
    rw c.in-Federal.is (c.least_booked.ensures ∙ ap (λ (d : DaysView). least (filter (lacks_notice d) bookings)) (c.in_ok-days-in-Federal.ensures ∙ ap (λ (d : DaysView). add_holiday d Federal c.args.day) c.days.ensures))
