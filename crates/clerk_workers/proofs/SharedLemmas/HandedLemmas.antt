-- Texts and lines that are handed over.
use Rattle.std.proofs.Common.{◌≡◌, ◌++◌, ◌+◌, ◌-◌, ◌≤◌, ◌<◌, ◌∙◌, ℕ, List, [], ◌∷◌, Option, length, drop, get_or, refl, sym, ap, append_assoc, append-nil}
use Rattle.std.proofs.lemmas.List.{at_drop_all, drop-drop, drop_more}
use Rattle.row_forms.specs.declared.row.Row.{Row}
use Rattle.office_texts.specs.Run.Words.{row_numbers}
use Rattle.program_streams.specs.declared.watched.Watched.{Watched}
use Rattle.program_streams.specs.Words.{Adds}
use Rattle.program_streams.proofs.CallerLemmas.{adds_both, adds_none, adds_same}
use Rattle.clerk_workers.specs.Shared.Lines.{TextsView}
use Rattle.clerk_workers.specs.Shared.Merged.{first_text, later_texts, merged_lines, next_text, texts_after}

-- what is left of some texts once the first is handed over
pub handed : (place at count : ℕ) (bytes lens : List ℕ) (texts : TextsView) → record { bytes = drop place bytes; lens = drop at lens } ≡ texts → count ≡ length (first_text texts)
    → record { bytes = drop (place + count) bytes; lens = drop (at + 1) lens } ≡ later_texts texts
handed place at count bytes lens texts is long =
    ap (λ (b : List ℕ). record { bytes = b; lens = drop (at + 1) lens }) (sym (drop-drop count place bytes))
    ∙ (ap (λ (l : List ℕ). record { bytes = drop count (drop place bytes); lens = l }) (sym (drop-drop 1 at lens))
    ∙ (ap (λ (t : TextsView). record { bytes = drop count t.bytes; lens = drop 1 t.lens }) is
    ∙ ap (λ (n : ℕ). record { bytes = drop n texts.bytes; lens = drop 1 texts.lens }) long))

-- the lines before these rows are handed over, of which the first has that number, and these texts are left
pub record AreHanded {W : Type 0} (contents : W → Option (List ℕ)) (first : Watched W) (waits : List ℕ) (second : Watched W) (waiting : List ℕ) (number : ℕ) (rows : List Row) (left : List TextsView) (whole : List ℕ) : Type 0 where
  pub said : List ℕ
  pub adds : Adds contents first waits second waiting said
  pub whole_is : said ++ merged_lines number rows left ≡ whole

module _ {W : Type 0} (contents : W → Option (List ℕ)) (first : Watched W) (waits : List ℕ) where
  pub none_handed : (rows : List Row) (left : List TextsView) → AreHanded contents first waits first waits 1 rows left (merged_lines 1 rows left)
  none_handed rows left = record { said = []; adds = adds_none contents first waits; whole_is = refl }

  module _ (second : Watched W) (waiting : List ℕ) (i : ℕ) (rows : List Row) (left : List TextsView) (whole : List ℕ) (so_far : AreHanded contents first waits second waiting (i + 1) (drop i rows) left whole) where
    -- one line more
    pub more_handed : (row : Row) (place : ℕ) (third : Watched W) (later : List ℕ) (fourth : Watched W) (last : List ℕ) (rest : List TextsView) → i < length rows → row ≡ get_or rows i row → place ≡ row.clerk - 1
        → Adds contents second waiting third later (row_numbers (i + 1) row.clerk) → Adds contents third later fourth last (next_text place left) → rest ≡ texts_after place left
        → AreHanded contents first waits fourth last (i + 1 + 1) (drop (i + 1) rows) rest whole
    unfolding merged_lines
    more_handed row place third later fourth last rest lt at is numbers next after =
        let line = row_numbers (i + 1) row.clerk ++ next_text place left in
        let rows_are : drop i rows ≡ row ∷ drop (i + 1) rows = drop_more rows i row lt ∙ ap (λ (r : Row). r ∷ drop (i + 1) rows) (sym at) in
        let those : merged_lines (i + 1) (drop i rows) left ≡ line ++ merged_lines (i + 1 + 1) (drop (i + 1) rows) rest =
        ap (λ (rs : List Row). merged_lines (i + 1) rs left) rows_are
        ∙ (ap (λ (p : ℕ). (row_numbers (i + 1) row.clerk ++ next_text p left) ++ merged_lines (i + 1 + 1) (drop (i + 1) rows) (texts_after p left)) (sym is)
        ∙ ap (λ (l : List TextsView). line ++ merged_lines (i + 1 + 1) (drop (i + 1) rows) l) (sym after)) in
        record {
          said = so_far.said ++ line;
          adds = adds_both contents first waits second waiting fourth last so_far.said line so_far.adds (adds_both contents second waiting third later fourth last (row_numbers (i + 1) row.clerk) (next_text place left) numbers next);
          whole_is = append_assoc so_far.said line (merged_lines (i + 1 + 1) (drop (i + 1) rows) rest) ∙ (ap (λ (t : List ℕ). so_far.said ++ t) (sym those) ∙ so_far.whole_is);
        }

    -- no row is left
    pub all_handed : length rows ≤ i → Adds contents first waits second waiting whole
    unfolding merged_lines
    all_handed past =
        let none : merged_lines (i + 1) (drop i rows) left ≡ [] = at_drop_all (λ (rs : List Row). merged_lines (i + 1) rs left) rows i past in
        adds_same contents first waits second waiting so_far.said whole (sym (append-nil so_far.said) ∙ (ap (λ (t : List ℕ). so_far.said ++ t) (sym none) ∙ so_far.whole_is)) so_far.adds
