use Rattle.std.proofs.Common.{◌∙◌}
use Rattle.docket_rows.specs.Words.{setup_of}
use Rattle.docket_core.specs.Docket.{DocketView}
use Rattle.docket_core.proofs.DocketLemmas.{opening_parts}
use Rattle.docket_core.proofs.holdings.Holdings.new.Goals as goal

pub returns-clause-parts : goal.returns-clause-parts
returns-clause-parts c =
    let d : DocketView = record { setup = c.in_ok-rules.rules; days = c.in_ok-days.days; cases = c.in_ok-cases.cases.items; judges = c.in_ok-judges.judges.items; rooms = c.in_ok-rooms.rooms.items } in
    opening_parts (setup_of c.args.court.now) d (c.in_ok-days.ensures ∙ c.days.ensures) c.in_ok-cases.ensures.none c.in_ok-judges.ensures.none c.in_ok-rooms.ensures.none
