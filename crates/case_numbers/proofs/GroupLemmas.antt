-- Groups of letters, a byte more.
use Rattle.std.proofs.Common.{◌≡◌, ◌∙◌, ◌+◌, ◌<◌, ◌≤◌, ◌==◌, ◌&&◌, ℕ, Bool, true, false, List, drop, get_or, length, refl}
use Rattle.std.specs.Char.{is_ascii_alphabetic}
use Rattle.std.proofs.lemmas.List.{at_drop_more, at_drop_all}
use Rattle.case_numbers.specs.Forms.{are_groups}

module _ (text : List ℕ) (i : ℕ) where
  pub groups_letter : (letter : Bool) → i < length text → is_ascii_alphabetic (get_or text i 0) ≡ true → are_groups letter (drop i text) ≡ are_groups true (drop (i + 1) text)
  unfolding are_groups
  groups_letter letter there is = at_drop_more (are_groups letter) text i 0 there ∙ rw is refl

  pub groups_dash : i < length text → is_ascii_alphabetic (get_or text i 0) ≡ false → get_or text i 0 ≡ 45 → are_groups true (drop i text) ≡ are_groups false (drop (i + 1) text)
  unfolding are_groups
  groups_dash there no_letter dash = at_drop_more (are_groups true) text i 0 there ∙ rw (no_letter, dash) refl

  pub groups_end : (letter : Bool) → length text ≤ i → are_groups letter (drop i text) ≡ letter
  unfolding are_groups
  groups_end letter past = at_drop_all (are_groups letter) text i past

  pub groups_other : (letter : Bool) → i < length text → is_ascii_alphabetic (get_or text i 0) ≡ false → (letter && (get_or text i 0 == 45)) ≡ false → are_groups letter (drop i text) ≡ false
  unfolding are_groups
  groups_other letter there no_letter no_dash = at_drop_more (are_groups letter) text i 0 there ∙ rw no_letter (by letter (get_or text i 0 == 45) no_dash)
    where
      by : (l d : Bool) → (l && d) ≡ false → (l && d && are_groups false (drop (i + 1) text)) ≡ false
      by true true h = cc h
      by true false h = refl
      by false d h = refl
