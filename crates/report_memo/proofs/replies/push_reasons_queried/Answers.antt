use Rattle.std.proofs.Common.{◌≡◌, ◌∙◌, None, ap}
use Rattle.rule_periods.specs.Words.{start_refusal}
use Rattle.docket_rows.specs.Words.{setup_of}
use Rattle.reason_notes.specs.Readings.Words.{DaysByReadingView}
use Rattle.report_memo.proofs.DocketLemmas.{computed_starts}
use Rattle.report_memo.proofs.replies.push_reasons_queried.Goals as goal

pub returns-in-Compute : goal.returns-in-Compute
returns-in-Compute c docketed shown said holds read =
    let asked = c.in-Compute in
    let setup = setup_of c.args.court.now in
    let days : c.args.days.now.here ≡ docketed.days = ap (λ (d : DaysByReadingView). d.here) read in
    let starts : start_refusal docketed.days asked.period asked.event asked.second asked.service ≡ None =
    computed_starts setup docketed asked.period asked.event asked.second asked.service shown (rw asked.is at said) in
    rw asked.is (rw read at (c.push_started_reasons.ensures (ap (λ d. start_refusal d asked.period asked.event asked.second asked.service) days ∙ starts)))
