use Rattle.std.proofs.Common.{◌≡◌, [], ap, fold, refl, sym, ◌∙◌}
use Rattle.versioned_steps.proofs.CallerLemmas.{legal_empty}
use Rattle.shared_docket.specs.Words.{docket_rules}
use Rattle.published_docket.specs.Boards.{BoardView}
use Rattle.published_docket.specs.Changes.{applied_to}
use Rattle.published_docket.specs.Inside.Held.{HeldView}
use Rattle.published_docket.specs.Cells.{IsSmall}
use Rattle.published_docket.proofs.OwedLemmas.{nothing_more}
use Rattle.published_docket.proofs.PublishedLemmas.{opening_shown}
use Rattle.published_docket.proofs.publisher.Publisher.new.Goals as goal

pub new-requires-2-clause-shown : goal.new-requires-2-clause-shown
new-requires-2-clause-shown c =
    let small : IsSmall c.in_ok-parts.parts = record { judges = c.in_ok-parts.ensures.few.0; rooms = c.in_ok-parts.ensures.few.1 } in
    rw c.in_ok-first.ensures (opening_shown c.in_ok-parts.parts c.open-head.result.1 small c.open-head.ensures.log)

pub invariant_of-result : goal.invariant_of-result
invariant_of-result c =
    let held = c.in_ok-held.held in
    let opened : held.shown ≡ c.in_ok-first.first = ap (λ (h : HeldView). h.shown) c.in_ok-held.ensures in
    let trail : c.open-head.result.1 ≡ held.shown.trail = sym (ap (λ (x : BoardView). x.trail) (opened ∙ c.in_ok-first.ensures)) in
    let none : held.pending ≡ [] = ap (λ (h : HeldView). h.pending) c.in_ok-held.ensures in
    record {
      held_is = held;
      there = refl;
      same_parts = ap (λ (x : BoardView). x.parts) (opened ∙ c.in_ok-first.ensures);
      shows = nothing_more held c.new-3.result.items c.open-head.result.1 c.new-3.ensures.items (ap (λ l. fold applied_to held.shown l) none) trail;
      head_is = c.open-head.ensures.head;
      small = record { judges = c.in_ok-parts.ensures.few.0; rooms = c.in_ok-parts.ensures.few.1 };
      legal = rw c.open-head.ensures.log (legal_empty (docket_rules c.in_ok-parts.parts));
    }
