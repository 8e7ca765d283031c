-- The rule of what is published, and what a step says.
use Rattle.std.specs.Prelude.{◌≡◌, ℕ, List, Option, Some, IfSome}
use mathlib.Core.Option.{some}
use lib.ListN.{get_elem?}
use Rattle.published_docket.specs.declared.known.Known.{Known}
use Rattle.published_docket.specs.Trails.{IsBeginning}
use Rattle.published_docket.specs.Boards.{BoardView, known_of, IsShown}

-- what is published goes on from what was known: it is the docket of the same court, and its history begins with the one that was known
pub record Extends (k : Known) (x : BoardView) : Type 0 where
  pub parts : x.parts ≡ k.parts
  pub trail : IsBeginning k.trail x.trail

-- it is the docket after its history, and it goes on from what each reader and the publisher know
pub record Published (x : BoardView) (views : List (Option Known)) : Type 0 where
  pub shown : IsShown x
  pub known : (seat : ℕ) (v : Option Known) → get_elem? views seat ≡ some v → IfSome v (λ k. Extends k x)

-- after x, y may be published
pub record MayShow (x y : BoardView) : Type 0 where
  pub shown : IsShown x → IsShown y
  pub grown : Extends (known_of x) y

-- Before the step, v was known and x was published. The step publishes y, and w is known from then on. Then x goes on from v, y is the
-- docket after its history, and w is all of y.
pub record Sees (v : Option Known) (x y : BoardView) (w : Option Known) : Type 0 where
  pub shown : IsShown y
  pub later : IfSome v (λ k. Extends k x)
  pub seen : w ≡ Some (known_of y)
