use Rattle.std.proofs.Common.{◌≡◌, ℕ, List, [], ◌∷◌, ◌++◌, ◌∙◌, ap, drop, length, subst, sym}
use Rattle.std.proofs.lemmas.List.{drop-append-le}
use Rattle.std.specs.Arc.{arc_value}
use Rattle.court_days.specs.Words.{CourtView}
use Rattle.clerk_workers.specs.Shared.Lines.{HoldLines, HoldTexts, LinesView}
use Rattle.clerk_workers.specs.Shared.Text.{row_text}
use Rattle.clerk_workers.proofs.SharedLemmas.LineLemmas.{texts_more}
use Rattle.clerk_workers.proofs.shared.lines.LinesNotes.add.Goals as goal

pub returns : goal.returns
returns g c = λ answers held.
    let court = g.L.NamesCourt.court in
    let inside = c.self.inside in
    let text = c.as_bytes.result.now in
    let now : HoldLines court (record { court = arc_value inside.court; texts = record { bytes = drop inside.place inside.bytes.items; lens = drop inside.at inside.lens.items } }) answers = subst (λ (l : LinesView). HoldLines court l answers) (sym c.self.view_is) held in
    let is : text ≡ row_text court c.args.answer =
    c.as_bytes.ensures.value ∙ (c.in_ok-push_row_answer.ensures ∙ (ap (λ (t : List ℕ). t ++ row_text c.deref.result.now c.args.answer) c.clear.ensures.bytes ∙ ap (λ (named : CourtView). row_text named c.args.answer) (c.deref.ensures ∙ now.of_court))) in
    let more = texts_more court (drop inside.place inside.bytes.items) (drop inside.at inside.lens.items) text answers c.args.answer now.held is in
    let Bytes : List ℕ → Type 0 = λ b. HoldTexts court (record { bytes = b; lens = drop inside.at inside.lens.items ++ length text ∷ [] }) (answers ++ c.args.answer ∷ []) in
    let Lens : List ℕ → Type 0 = λ l. HoldTexts court (record { bytes = drop inside.place (inside.bytes.items ++ text); lens = l }) (answers ++ c.args.answer ∷ []) in
    let later = subst Lens (sym (drop-append-le inside.at inside.lens.items (length text ∷ []) c.self.invariant.of_lens)) (subst Bytes (sym (drop-append-le inside.place inside.bytes.items text c.self.invariant.of_bytes)) more) in
    rw (c.in_ok-push.ensures.items, c.in_ok-extend_from_slice.ensures.items, c.len.ensures, ← c.as_bytes.ensures.len) (record { of_court = now.of_court; held = later })
