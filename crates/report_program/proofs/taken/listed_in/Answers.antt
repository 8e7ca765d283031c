use Rattle.std.proofs.Common.{◌∙◌, ap, not, sym}
use Rattle.report_program.specs.Calendar.{changes_by, docketed_by, lost_of}
use Rattle.report_program.proofs.TakenLemmas.{any_came}
use Rattle.report_program.proofs.taken.listed_in.Goals as goal

pub returns-clause-found : goal.returns-clause-found
returns-clause-found c = λ past rows holds.
    let court = c.args.court.now in
    let docketed = docketed_by court rows in
    any_came court c.args.labels.now docketed _ (changes_by court past rows) _ (lost_of court past rows) _ past.corrections c.args.listing.now c.in_ok-text.text.items
    (sym c.is_calendar.ensures ∙ c.if-is_calendar.false) (c.in_ok-text.ensures docketed holds)

pub returns-clause-some : goal.returns-clause-some
returns-clause-some c = ap not (sym (sym c.is_calendar.ensures ∙ c.if-is_calendar.false))
