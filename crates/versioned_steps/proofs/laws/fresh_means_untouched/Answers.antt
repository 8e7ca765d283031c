use Rattle.versioned_steps.proofs.TouchLemmas.{fresh_untouched, untouched_fresh}
use Rattle.versioned_steps.proofs.laws.fresh_means_untouched.Goals as goal

pub returns : goal.returns
returns g c = record {
  fresh = λ parts. fresh_untouched (g.P.Parted.rules parts);
  untouched = λ parts. untouched_fresh (g.P.Parted.rules parts);
}
