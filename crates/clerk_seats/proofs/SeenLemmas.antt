-- What a seat has seen of the history, as it looks again.
use Rattle.std.proofs.Common.{◌≡◌, true, Option, Some, None, IfNone, IfSome, refl, sym, ◌∙◌, subst}
use mathlib.Core.List.{IsPrefix}
use Rattle.logbook.specs.Pages.{Book}
use Rattle.docket_rows.specs.Words.{CourtSetup}
use Rattle.versioned_steps.specs.Words.{is_legal}
use Rattle.shared_docket.specs.Words.{docket_rules}
use Rattle.published_docket.specs.declared.known.Known.{Known}
use Rattle.published_docket.specs.Words.{TrailView, BoardView, Extends, Sees, known_of}
use Rattle.published_docket.proofs.CallerLemmas.{begins_itself}
use Rattle.clerk_seats.specs.Seen.{HasSeen, KnowsOf, Looks}

module _ {history : Book} {setup : CourtSetup} {v : Option Known} (knows : KnowsOf history setup v) (x : BoardView) (w : Option Known) (sees : Sees v x x w) where
  -- what is published goes on from what the reader knew
  goes_on : Extends knows.knows x
  goes_on = let P : Option Known → Type 0 = λ o. IfSome o (λ k. Extends k x) in subst P knows.there sees.later

  -- so it is of the same court, and of the same history
  pub same_court : x.parts ≡ setup
  same_court = goes_on.parts ∙ knows.parts

  pub same_history : x.trail.book ≡ history
  same_history = goes_on.trail.book ∙ knows.book

  -- and the reader knows that then
  pub knows_on : (after : Option Known) → after ≡ w → KnowsOf history setup after
  knows_on after left = record { knows = known_of x; there = left ∙ sees.seen; parts = same_court; book = same_history }

module _ (setup : CourtSetup) (before : TrailView) (v : Option Known) (seen : HasSeen setup before v) where
  -- where nobody publishes any more, all stays as it was
  pub looks_nowhere : (after : Option Known) → after ≡ v → Looks setup before before after
  looks_nowhere after left =
      let P : Option Known → Type 0 = λ k. HasSeen setup before k in
      record { seen = subst P (sym left) seen; later = begins_itself before }

  -- the seat took what is published, if that goes on from what it had seen
  pub looks_on : {A : Type 0} (taken : Option A) (x : BoardView) (w after : Option Known) (trail : TrailView) → Sees v x x w → after ≡ w → IfNone taken (trail ≡ before) → IfSome taken (λ _. IsPrefix before.log x.trail.log) → IfSome taken (λ _. trail ≡ x.trail) → Looks setup before trail after
  looks_on None x w after trail sees left same later took =
      let P : TrailView → Type 0 = λ t. Looks setup before t after in
      subst P (sym same) (record {
        seen = record { knows_of = knows_on seen.knows_of x w sees after left; legal = seen.legal };
        later = begins_itself before;
      })
  looks_on (Some taken) x w after trail sees left same later took =
      let P : CourtSetup → Type 0 = λ b. is_legal (docket_rules b) x.trail.log ≡ true in
      let legal : is_legal (docket_rules setup) x.trail.log ≡ true = subst P (same_court seen.knows_of x w sees) sees.shown.legal in
      let book : x.trail.book ≡ before.book = same_history seen.knows_of x w sees in
      let Q : TrailView → Type 0 = λ t. Looks setup before t after in
      subst Q (sym took) (record {
        seen = record {
          knows_of = record { knows = known_of x; there = left ∙ sees.seen; parts = same_court seen.knows_of x w sees; book = refl };
          legal = legal;
        };
        later = record { book = book; log = later };
      })
