-- What readers are owed, while it is queued and shown.
use Rattle.std.proofs.Common.{◌≡◌, Bool, true, false, MatchBool, Some, List, [], ◌∷◌, ◌++◌, length, fold, refl, ap, sym, ◌∙◌, subst}
use Rattle.std.proofs.lemmas.List.{append-nil}
use Rattle.docket_rows.specs.declared.part.PartId.{PartId}
use Rattle.docket_rows.specs.declared.part.PartValue.{PartValue}
use Rattle.published_docket.specs.declared.change.BoardChange.{BoardChange}
use Rattle.published_docket.specs.declared.change.BoardChange.TheVariants.{Grow}
use Rattle.published_docket.specs.Trails.{TrailView}
use Rattle.published_docket.specs.Boards.{BoardView, known_of}
use Rattle.published_docket.specs.Changes.{applied_to, puts_of}
use Rattle.published_docket.specs.Inside.Held.{HeldView, AllShown, ShownOrOwed, board_then}
use Rattle.published_docket.specs.Published.{MayShow}
use Rattle.published_docket.proofs.ChangeLemmas.{fill_more, grown_trail}
use Rattle.published_docket.proofs.PublishedLemmas.{stays_same}

-- what wasn't shown may still be
owed_still : (h q : HeldView) (before owed : List (PartId × PartValue)) (trail : TrailView) → MayShow h.shown (board_then h before trail) → q.shown ≡ h.shown → board_then q owed trail ≡ board_then h before trail → MayShow q.shown (board_then q owed trail)
owed_still h q before owed trail may same then =
    let P : BoardView → Type 0 = λ x. MayShow x (board_then q owed trail) in
    let Q : BoardView → Type 0 = λ y. MayShow h.shown y in
    subst P (sym same) (subst Q (sym then) may)

-- what is queued may be shown, where it is what readers were owed
pub owed_now : (h q : HeldView) (before : List (PartId × PartValue)) (trail : TrailView) → MayShow h.shown (board_then h before trail) → q.shown ≡ h.shown → fold applied_to q.shown q.pending ≡ board_then h before trail → MayShow q.shown (fold applied_to q.shown q.pending)
owed_now h q before trail may same all =
    let P : BoardView → Type 0 = λ x. MayShow x (fold applied_to q.shown q.pending) in
    let Q : BoardView → Type 0 = λ y. MayShow h.shown y in
    subst P (sym same) (subst Q (sym all) may)

-- whether it was shown or not
pub shown_or_owed : (done : Bool) (h q r : HeldView) (before owed : List (PartId × PartValue)) (trail : TrailView) → MayShow h.shown (board_then h before trail) → q.shown ≡ h.shown
    → board_then q owed trail ≡ board_then h before trail → fold applied_to q.shown q.pending ≡ board_then h before trail → owed ≡ []
    → MatchBool done (r ≡ record { shown = fold applied_to q.shown q.pending; pending = []; known = Some (known_of (fold applied_to q.shown q.pending)) }) (r ≡ q)
    → ShownOrOwed done r owed trail
shown_or_owed true h q r before owed trail may same then all none is =
    let made : r.shown ≡ board_then h before trail = ap (λ (x : HeldView). x.shown) is ∙ all in
    record {
      none_pending = ap (λ (x : HeldView). x.pending) is;
      none_owed = none;
      known_is = ap (λ (x : HeldView). x.known) is ∙ ap (λ (x : HeldView). Some (known_of x.shown)) (sym is);
      trail_is = ap (λ (x : BoardView). x.trail) made ∙ grown_trail h.shown (h.pending ++ puts_of (length trail.log) before) trail;
    }
shown_or_owed false h q r before owed trail may same then all none is =
    let P : HeldView → Type 0 = λ x. MayShow x.shown (board_then x owed trail) in
    subst P (sym is) (owed_still h q before owed trail may same then)

-- either way readers take a docket of the same court
pub shown_parts : (done : Bool) (h q r : HeldView) (before : List (PartId × PartValue)) (trail : TrailView) → MayShow h.shown (board_then h before trail) → q.shown ≡ h.shown → fold applied_to q.shown q.pending ≡ board_then h before trail
    → MatchBool done (r ≡ record { shown = fold applied_to q.shown q.pending; pending = []; known = Some (known_of (fold applied_to q.shown q.pending)) }) (r ≡ q)
    → r.shown.parts ≡ h.shown.parts
shown_parts true h q r before trail may same all is = ap (λ (x : HeldView). x.shown.parts) is ∙ (ap (λ (x : BoardView). x.parts) all ∙ may.grown.parts)
shown_parts false h q r before trail may same all is = ap (λ (x : HeldView). x.shown.parts) is ∙ ap (λ (x : BoardView). x.parts) same

-- where nothing is owed and what is pending changes nothing, it may be shown
pub nothing_more : (h : HeldView) (owed : List (PartId × PartValue)) (trail : TrailView) → owed ≡ [] → fold applied_to h.shown h.pending ≡ h.shown → trail ≡ h.shown.trail → MayShow h.shown (board_then h owed trail)
nothing_more h owed trail none nothing same =
    let puts : h.pending ++ puts_of (length trail.log) owed ≡ h.pending = ap (λ l. h.pending ++ puts_of (length trail.log) l) none ∙ append-nil h.pending in
    stays_same h.shown (board_then h owed trail) (ap (λ (l : List BoardChange). fold applied_to h.shown (l ++ Grow trail ∷ [])) puts ∙ fill_more h.shown h.pending trail nothing same)

-- so where all is shown, and changes that change nothing are pending
pub whole_filled : (h q : HeldView) (owed : List (PartId × PartValue)) (trail : TrailView) → AllShown h owed trail → q.shown ≡ h.shown → fold applied_to h.shown q.pending ≡ h.shown → MayShow q.shown (board_then q owed trail)
whole_filled h q owed trail whole same nothing =
    nothing_more q owed trail whole.none_owed
    (ap (λ (x : BoardView). fold applied_to x q.pending) same ∙ (nothing ∙ sym same))
    (sym (ap (λ (x : BoardView). x.trail) same ∙ whole.trail_is))

-- where nothing is pending, that changes nothing
pub whole_nothing : (h : HeldView) (owed : List (PartId × PartValue)) (trail : TrailView) → AllShown h owed trail → fold applied_to h.shown h.pending ≡ h.shown
whole_nothing h owed trail whole = ap (λ (l : List BoardChange). fold applied_to h.shown l) whole.none_pending

-- what is shown or owed may be shown
pub shown_again : (all : Bool) (h : HeldView) (owed : List (PartId × PartValue)) (trail : TrailView) → ShownOrOwed all h owed trail → MayShow h.shown (board_then h owed trail)
shown_again true h owed trail whole = whole_filled h h owed trail whole refl (whole_nothing h owed trail whole)
shown_again false h owed trail may = may
