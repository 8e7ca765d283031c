-- Entries that were decided again.
use Rattle.std.specs.Prelude.{◌≡◌, ℕ, List, map}
use Rattle.desk_entries.specs.declared.review.Review.{Review}
use Rattle.desk_register.specs.declared.standing.Standing.{Standing}
use Rattle.desk_entries.specs.Words.{StandsAt, change_in, changes_by}

-- the docket is that of the entries under what stands, and these are the rows that it answers otherwise than they are kept
pub record IsReview (under : Standing) (entries : List (List ℕ)) (review : Review) : Type 0 where
  pub stands : StandsAt under review.register entries
  pub changes : map change_in review.differences.items ≡ changes_by under entries
