use Rattle.court_file_check.proofs.ReviewLemmas.{review_is_in_order}
use Rattle.court_file_check.proofs.laws.review_is_in_order.Goals as goal

pub returns : goal.returns
returns c = review_is_in_order
