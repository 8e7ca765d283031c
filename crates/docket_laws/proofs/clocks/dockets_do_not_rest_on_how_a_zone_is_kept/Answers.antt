use Rattle.docket_laws.proofs.AlikeLemmas.{refusal_alike, answered_alike, step_alike, rows_from_alike, docket_alike, seen_alike, view_alike}
use Rattle.docket_laws.proofs.clocks.dockets_do_not_rest_on_how_a_zone_is_kept.Goals as goal

pub returns : goal.returns
returns c = record {
  refused = refusal_alike;
  answers = answered_alike;
  steps = step_alike;
  rows = rows_from_alike;
  dockets = docket_alike;
  shown = seen_alike;
  views = view_alike;
}
