-- The lines of all clerks, in the order of the rows.
use Rattle.std.proofs.Common.{◌≡◌, ℕ, zero, suc, ◌+◌, ◌-◌, ◌<◌, ◌≤◌, ◌++◌, ◌∙◌, List, [], ◌∷◌, length, drop, take, get_or, map, set, ap, sym, refl, subst, arith}
use Rattle.std.proofs.Math.Seq.{drop-append_seam, take-append_seam}
use Rattle.std.proofs.lemmas.List.{length-set}
use Rattle.std.proofs.lemmas.List.Elements.{All-head, All-tail}
use Rattle.court_days.specs.Words.{CourtView}
use Rattle.row_forms.specs.declared.row.Row.{Row}
use Rattle.row_forms.specs.Words.{IsClerk}
use Rattle.office_texts.specs.Run.Words.{row_numbers}
use Rattle.clerk_workers.specs.declared.answer.SharedReply.{SharedReply}
use Rattle.clerk_workers.specs.Words.{AllHold, AreAsMany, AreOfClerks, list_at}
use Rattle.clerk_workers.proofs.CallerLemmas.{held_long}
use Rattle.clerk_workers.specs.Shared.Lines.{HoldLines, HoldTexts, LinesView, TextsView, texts_of}
use Rattle.clerk_workers.specs.Shared.Merged.{IsMergedText, first_len, first_text, later_texts, merged_lines, next_text, texts_after}
use Rattle.clerk_workers.specs.Shared.Text.{answer_line, answer_lines, row_text}
use Rattle.clerk_workers.proofs.SharedLemmas.HoldLemmas.{first_of, texts_held}
use Rattle.clerk_workers.proofs.SharedLemmas.MergedLemmas.{all_merged, first_has, first_left, first_merged, merged}

-- texts of which the first is that of an answer
module _ (court : CourtView) (texts : TextsView) (answer : SharedReply) (others : List SharedReply) (held : HoldTexts court texts (answer ∷ others)) where
  first_is : first_text texts ≡ row_text court answer
  first_is =
      ap (λ (lens : List ℕ). take (first_len lens) texts.bytes) held.lens_are
      ∙ (ap (λ (bytes : List ℕ). take (length (row_text court answer)) bytes) held.bytes_are
      ∙ take-append_seam (row_text court answer) (texts_of court others))

  later_hold : HoldTexts court (later_texts texts) others
  later_hold = record {
    bytes_are = ap (λ (t : List ℕ). drop (length t) texts.bytes) first_is
        ∙ (ap (λ (bytes : List ℕ). drop (length (row_text court answer)) bytes) held.bytes_are
        ∙ drop-append_seam (row_text court answer) (texts_of court others));
    lens_are = ap (λ (lens : List ℕ). drop 1 lens) held.lens_are;
  }

module _ (court : CourtView) where
  -- the next text of a clerk is that of the first answer in its list
  next_is : (left : List TextsView) (lists : List (List SharedReply)) (place : ℕ) (answer : SharedReply) (others : List SharedReply) → AllHold (HoldTexts court) left lists → list_at place lists ≡ answer ∷ others → next_text place left ≡ row_text court answer
  unfolding next_text
  next_is [] [] place answer others held is = cc is
  next_is [] (list ∷ lists) place answer others held is = absurd held
  next_is (texts ∷ left) [] place answer others held is = absurd held
  next_is (texts ∷ left) (list ∷ lists) zero answer others held is =
      let P : List SharedReply → Type 0 = λ answers. HoldTexts court texts answers in
      first_is court texts answer others (subst P is held.0)
  next_is (texts ∷ left) (list ∷ lists) (suc place) answer others held is = next_is left lists place answer others held.1 is

  -- what is left after it are the texts of the others
  after_hold : (left : List TextsView) (lists : List (List SharedReply)) (place : ℕ) (answer : SharedReply) (others : List SharedReply) → AllHold (HoldTexts court) left lists → list_at place lists ≡ answer ∷ others → AllHold (HoldTexts court) (texts_after place left) (set lists place others)
  unfolding texts_after
  after_hold [] [] place answer others held is = cc is
  after_hold [] (list ∷ lists) place answer others held is = absurd held
  after_hold (texts ∷ left) [] place answer others held is = absurd held
  after_hold (texts ∷ left) (list ∷ lists) zero answer others held is =
      let P : List SharedReply → Type 0 = λ answers. HoldTexts court texts answers in
      (later_hold court texts answer others (subst P is held.0), held.1)
  after_hold (texts ∷ left) (list ∷ lists) (suc place) answer others held is = (held.0, after_hold left lists place answer others held.1 is)

  -- the lines of rows are those of the answers
  merged_is : (number : ℕ) (rows : List Row) (left : List TextsView) (lists : List (List SharedReply)) → AllHold (HoldTexts court) left lists → AreOfClerks (length lists) rows → AreAsMany rows lists → merged_lines number rows left ≡ answer_lines court number rows (merged rows lists)
  unfolding answer_line answer_lines merged_lines
  merged_is number [] left lists held clerks many = refl
  merged_is number (row ∷ rows) left lists held clerks many =
      let place = row.clerk - 1 in
      let clerk = All-head (λ (r : Row). IsClerk (length lists) r.clerk) row rows clerks in
      let first = first_of (list_at place lists) (first_has row rows lists clerk many) in
      let P : ℕ → Type 0 = λ n. AreOfClerks n rows in
      let others = subst P (sym (length-set lists place first.1)) (All-tail (λ (r : Row). IsClerk (length lists) r.clerk) row rows clerks) in
      let later = merged_is (number + 1) rows (texts_after place left) (set lists place first.1) (after_hold left lists place first.0 first.1 held first.2) others (first_left row rows lists clerk many first.0 first.1 first.2) in
      ap (λ (t : List ℕ). (row_numbers number row.clerk ++ t) ++ merged_lines (number + 1) rows (texts_after place left)) (next_is left lists place first.0 first.1 held first.2)
      ∙ (ap (λ (t : List ℕ). (row_numbers number row.clerk ++ row_text court first.0) ++ t) later
      ∙ ap (λ (answers : List SharedReply). answer_lines court number (row ∷ rows) answers) (sym (first_merged row rows lists clerk many first.0 first.1 first.2)))

  -- the lines that hold the answers of lists, in the order of the rows
  pub merged_text : (rows : List Row) (lines : List LinesView) (lists : List (List SharedReply)) → AllHold (HoldLines court) lines lists → AreOfClerks (length lines) rows → AreAsMany rows lists → IsMergedText court rows lists (merged_lines 1 rows (map (λ (each : LinesView). each.texts) lines))
  merged_text rows lines lists held clerks many =
      let P : ℕ → Type 0 = λ n. AreOfClerks n rows in
      let of_lists = subst P (sym (held_long (HoldLines court) lines lists held)) clerks in
      let all = all_merged rows lists of_lists many in
      record {
        answers = merged rows lists;
        as_many = all.0;
        merged = all.1;
        text_is = merged_is 1 rows (map (λ (each : LinesView). each.texts) lines) lists (texts_held court lines lists held) of_lists many;
      }

-- the texts of lines
abbrev pub texts_in : List LinesView → List TextsView
texts_in lines = map (λ (each : LinesView). each.texts) lines

-- the next text is that of the lines at the place
pub next_at : (lines : List LinesView) (place : ℕ) (d : LinesView) → place < length lines → next_text place (texts_in lines) ≡ first_text (get_or lines place d).texts
unfolding next_text
next_at [] place d lt = absurd (omega (arith, lt))
next_at (each ∷ lines) zero d lt = refl
next_at (each ∷ lines) (suc place) d lt = next_at lines place d (omega (arith, lt))

pub after_at : (lines : List LinesView) (place : ℕ) (d new : LinesView) → place < length lines → new.texts ≡ later_texts (get_or lines place d).texts → texts_in (set lines place new) ≡ texts_after place (texts_in lines)
unfolding texts_after
after_at [] place d new lt is = absurd (omega (arith, lt))
after_at (each ∷ lines) zero d new lt is = ap (λ (t : TextsView). t ∷ texts_in lines) is
after_at (each ∷ lines) (suc place) d new lt is = ap (λ (left : List TextsView). each.texts ∷ left) (after_at lines place d new (omega (arith, lt)) is)

-- at a place past all clerks there is none, and nothing changes
pub none_at : (lines : List LinesView) (place : ℕ) → length lines ≤ place → next_text place (texts_in lines) ≡ []
unfolding next_text
none_at [] place past = refl
none_at (each ∷ lines) zero past = absurd (omega (arith, past))
none_at (each ∷ lines) (suc place) past = none_at lines place (omega (arith, past))

pub same_at : (lines : List LinesView) (place : ℕ) → length lines ≤ place → texts_in lines ≡ texts_after place (texts_in lines)
unfolding texts_after
same_at [] place past = refl
same_at (each ∷ lines) zero past = absurd (omega (arith, past))
same_at (each ∷ lines) (suc place) past = ap (λ (left : List TextsView). each.texts ∷ left) (same_at lines place (omega (arith, past)))
