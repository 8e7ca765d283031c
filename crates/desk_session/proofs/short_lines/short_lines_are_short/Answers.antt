use Rattle.desk_session.proofs.ShortLawLemmas.{are_short, stop_none}
use Rattle.desk_session.proofs.short_lines.short_lines_are_short.Goals as goal

pub returns : goal.returns
returns c = record { short = are_short; stops_none = stop_none }
