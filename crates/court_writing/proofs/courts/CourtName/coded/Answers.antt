use Rattle.std.proofs.Common.{◌∙◌, ap}
use Rattle.std.specs.List.{find}
use Rattle.std.specs.Str.{bytes_eq}
use Rattle.court_writing.specs.Courts.{district_named, of_district, zone_text}
use Rattle.court_writing.proofs.CourtLemmas.{found}
use Rattle.court_writing.proofs.courts.CourtName.coded.Goals as goal

pub returns : goal.returns
unfolding district_named
returns c =
    rw c.first_named.ensures (found (λ c. of_district c.code.now c.state (zone_text c.zone)) (λ d. bytes_eq d.code c.args.code.now) c.all.result.now ∙ ap (find (λ d. bytes_eq d.code c.args.code.now)) c.all.ensures)
