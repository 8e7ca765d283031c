use Rattle.desk_session.proofs.ShortLawLemmas.{are_cut}
use Rattle.desk_session.proofs.short_lines.long_lines_are_cut.Goals as goal

pub returns : goal.returns
returns c = are_cut
