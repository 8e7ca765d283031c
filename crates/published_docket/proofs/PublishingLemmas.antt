-- While one more entry is published.
use Rattle.std.proofs.Common.{◌≡◌, ℕ, ◌+◌, Bool, true, Option, Some, List, [], ◌∷◌, ◌++◌, length, fold, refl, ap, sym, ◌∙◌, subst, length-append}
use Rattle.std.proofs.lemmas.Option.{same_Some}
use Rattle.logbook.specs.Pages.{Named}
use Rattle.docket_rows.specs.declared.answer.Answer.{Answer}
use Rattle.docket_rows.specs.declared.command.Command.{Command}
use Rattle.docket_rows.specs.declared.part.PartId.{PartId}
use Rattle.docket_rows.specs.declared.part.PartValue.{PartValue}
use Rattle.docket_rows.specs.Words.{CourtSetup}
use Rattle.versioned_steps.specs.declared.entry.Entry.{Entry}
use Rattle.versioned_steps.specs.Words.{MayFollow, is_legal, value_of, writes_on}
use Rattle.versioned_steps.proofs.CallerLemmas.{legal_push}
use Rattle.shared_docket.specs.Words.{docket_rules}
use Rattle.shared_docket.proofs.CallerLemmas.{docket_lawful}
use Rattle.published_docket.specs.declared.change.BoardChange.{BoardChange}
use Rattle.published_docket.specs.declared.change.BoardChange.TheVariants.{Grow}
use Rattle.published_docket.specs.declared.known.Known.{Known}
use Rattle.published_docket.specs.Trails.{TrailView}
use Rattle.published_docket.specs.Boards.{BoardView, known_of}
use Rattle.published_docket.specs.Changes.{applied_to, puts_of, put_all}
use Rattle.published_docket.specs.Counted.{head_of}
use Rattle.published_docket.specs.Inside.Held.{HeldView, AllShown, ShownOrOwed, Keeps, board_then}
use Rattle.published_docket.specs.Published.{MayShow}
use Rattle.published_docket.specs.Cells.{IsSmall}
use Rattle.published_docket.proofs.ChangeLemmas.{grown_made}
use Rattle.published_docket.proofs.PublishedLemmas.{entry_shown}

-- readers see all of k in h; the entry may follow it, and writes this; t is the history with the entry
pub record IsPublishing (k : Known) (h : HeldView) (e : Entry Command Answer) (writes : List (PartId × PartValue)) (t : TrailView) : Type 0 where
  pub known : known_of h.shown ≡ k
  pub none : h.pending ≡ []
  pub small : IsSmall k.parts
  pub follows : MayFollow (docket_rules k.parts) k.trail.log e
  pub written : writes ≡ writes_on (docket_rules k.parts) (value_of (docket_rules k.parts) k.trail.log) e.command
  pub grown : t ≡ record k.trail { log = k.trail.log ++ e ∷ [] }

-- what holds of one who publishes is said of what its contracts see
pub publishing : {kept : Option HeldView} {owed : List (PartId × PartValue)} {all : Bool} {head : Named} (k now : Known) → Keeps kept owed all head k.parts k.trail → k ≡ now → (x h : HeldView) (left : List (PartId × PartValue)) (e : Entry Command Answer) (writes : List (PartId × PartValue)) (s t : TrailView) → Some x ≡ kept
    → h.shown.parts ≡ x.shown.parts → AllShown h left k.trail
    → MayFollow (docket_rules now.parts) now.trail.log e → writes ≡ writes_on (docket_rules now.parts) (value_of (docket_rules now.parts) now.trail.log) e.command
    → s ≡ k.trail → t ≡ record s { log = s.log ++ e ∷ [] }
    → IsPublishing k h e writes t
publishing k now keeps seen x h left e writes s t took same whole follows written again grown =
    let P : HeldView → Type 0 = λ y. y.shown.parts ≡ k.parts in
    let court : h.shown.parts ≡ k.parts = same ∙ subst P (sym (same_Some _ _ (took ∙ keeps.there))) keeps.same_parts in
    record {
      known = ap (λ (b : CourtSetup). record { parts = b; trail = h.shown.trail }) court ∙ ap (λ (u : TrailView). record { parts = k.parts; trail = u }) whole.trail_is;
      none = whole.none_pending;
      small = keeps.small;
      follows = subst (λ (y : Known). MayFollow (docket_rules y.parts) y.trail.log e) (sym seen) follows;
      written = subst (λ (y : Known). writes ≡ writes_on (docket_rules y.parts) (value_of (docket_rules y.parts) y.trail.log) e.command) (sym seen) written;
      grown = grown ∙ ap (λ (u : TrailView). record u { log = u.log ++ e ∷ [] }) again;
    }

module _ (k : Known) (h : HeldView) (e : Entry Command Answer) (writes : List (PartId × PartValue)) (t : TrailView) (p : IsPublishing k h e writes t) where
  -- the entry may be shown
  pub publishing_shows : MayShow h.shown (board_then h writes t)
  publishing_shows =
      let x = h.shown in
      let grown : t ≡ record x.trail { log = x.trail.log ++ e ∷ [] } = p.grown ∙ ap (λ (y : Known). record y.trail { log = y.trail.log ++ e ∷ [] }) (sym p.known) in
      let count : length t.log ≡ length x.trail.log + 1 = ap (λ (s : TrailView). length s.log) grown ∙ length-append x.trail.log (e ∷ []) in
      let small : IsSmall x.parts = subst (λ (y : Known). IsSmall y.parts) (sym p.known) p.small in
      let follows : MayFollow (docket_rules x.parts) x.trail.log e = subst (λ (y : Known). MayFollow (docket_rules y.parts) y.trail.log e) (sym p.known) p.follows in
      let written : writes ≡ writes_on (docket_rules x.parts) (value_of (docket_rules x.parts) x.trail.log) e.command =
      subst (λ (y : Known). writes ≡ writes_on (docket_rules y.parts) (value_of (docket_rules y.parts) y.trail.log) e.command) (sym p.known) p.written in
      let made : board_then h writes t ≡ record { parts = x.parts; trail = t; cells = put_all (length t.log) writes x.cells } =
      ap (λ (l : List BoardChange). fold applied_to x ((l ++ puts_of (length t.log) writes) ++ Grow t ∷ [])) p.none ∙ grown_made x (length t.log) writes t in
      let all : board_then h writes t ≡ record { parts = x.parts; trail = record x.trail { log = x.trail.log ++ e ∷ [] }; cells = put_all (length x.trail.log + 1) writes x.cells } =
      made
      ∙ (ap (λ (s : TrailView). record { parts = x.parts; trail = s; cells = put_all (length t.log) writes x.cells }) grown
      ∙ ap (λ (m : ℕ). record { parts = x.parts; trail = record x.trail { log = x.trail.log ++ e ∷ [] }; cells = put_all m writes x.cells }) count) in
      subst (λ (y : BoardView). MayShow x y) (sym all) (entry_shown x e writes small follows written)

  -- and then the longer history is kept, shown or owed
  pub publishing_keeps : (after : HeldView) (owed : List (PartId × PartValue)) (all : Bool) (head : Named) → head ≡ head_of k.trail.book → is_legal (docket_rules k.parts) k.trail.log ≡ true
      → after.shown.parts ≡ h.shown.parts → ShownOrOwed all after owed t → Keeps (Some after) owed all head k.parts t
  publishing_keeps after owed all head head_is legal same shows = record {
    held_is = after;
    there = refl;
    same_parts = same ∙ ap (λ (y : Known). y.parts) p.known;
    shows = shows;
    head_is = head_is ∙ ap (λ (s : TrailView). head_of s.book) (sym p.grown);
    small = p.small;
    legal = rw p.grown (legal_push (docket_rules k.parts) (docket_lawful k.parts) k.trail.log e legal p.follows);
  }
