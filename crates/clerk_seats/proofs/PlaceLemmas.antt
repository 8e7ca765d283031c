-- The places of a clerk as the history grows, and lists that have some of them.
use Rattle.std.proofs.Common.{◌≡◌, ℕ, ◌+◌, ◌≤◌, ◌==◌, if◌then◌else◌, true, false, List, [], ◌∷◌, ◌++◌, inl, inr, length, refl, ap, sym, ◌∙◌, subst, arith}
use Rattle.std.proofs.lemmas.Bool.Decides.{Decides-eqb}
use mathlib.Core.List.{IsPrefix}
use Rattle.versioned_steps.specs.declared.entry.Entry.{Entry}
use Rattle.clerk_seats.specs.Places.{places_after, places_of, Within}

-- one more place, at the end of both
pub within_push : (mine places : List ℕ) (place : ℕ) → Within mine places → Within (mine ++ place ∷ []) (places ++ place ∷ [])
within_push [] [] place w = inl (refl, tt)
within_push [] (p ∷ ps) place w = inr (within_push [] ps place tt)
within_push (m ∷ ms) [] place w = absurd w
within_push (m ∷ ms) (p ∷ ps) place (inl both) = inl (both.0, within_push ms ps place both.1)
within_push (m ∷ ms) (p ∷ ps) place (inr w) = inr (within_push (m ∷ ms) ps place w)

-- more places after those
pub within_more : (mine places more : List ℕ) → Within mine places → Within mine (places ++ more)
within_more [] places more w = tt
within_more (m ∷ ms) [] more w = absurd w
within_more (m ∷ ms) (p ∷ ps) more (inl both) = inl (both.0, within_more ms ps more both.1)
within_more (m ∷ ms) (p ∷ ps) more (inr w) = inr (within_more (m ∷ ms) ps more w)

-- some of them are no more than all, and where they are as many, they are all
pub within_length : (mine places : List ℕ) → Within mine places → length mine ≤ length places
within_length [] places w = omega arith
within_length (m ∷ ms) [] w = absurd w
within_length (m ∷ ms) (p ∷ ps) (inl both) = omega (arith, within_length ms ps both.1)
within_length (m ∷ ms) (p ∷ ps) (inr w) = omega (arith, within_length (m ∷ ms) ps w)

pub within_whole : (mine places : List ℕ) → Within mine places → length places ≤ length mine → mine ≡ places
within_whole [] [] w le = refl
within_whole [] (p ∷ ps) w le = absurd (omega (arith, le))
within_whole (m ∷ ms) [] w le = absurd w
within_whole (m ∷ ms) (p ∷ ps) (inl both) le =
    let rest : ms ≡ ps = within_whole ms ps both.1 (omega (arith, le)) in
    cc (both.0, rest)
within_whole (m ∷ ms) (p ∷ ps) (inr w) le = absurd (omega (arith, le, within_length (m ∷ ms) ps w))

module _ {Command Answer : Type 0} where
  -- the places in one history and then another
  pub places_append : (before clerk : ℕ) (h k : List (Entry Command Answer)) → places_after before clerk (h ++ k) ≡ places_after before clerk h ++ places_after (before + length h) clerk k
  places_append before clerk [] k = ap (λ n. places_after n clerk k) (omega arith)
  places_append before clerk (e ∷ es) k =
      let more : before + 1 + length es ≡ before + length (e ∷ es) = omega arith in
      let rest : places_after (before + 1) clerk (es ++ k) ≡ places_after (before + 1) clerk es ++ places_after (before + length (e ∷ es)) clerk k =
      places_append (before + 1) clerk es k ∙ ap (λ n. places_after (before + 1) clerk es ++ places_after n clerk k) more in
      elim (e.clerk == clerk) as (λ b. (if b then (before + 1) ∷ places_after (before + 1) clerk (es ++ k) else places_after (before + 1) clerk (es ++ k)) ≡ (if b then (before + 1) ∷ places_after (before + 1) clerk es else places_after (before + 1) clerk es) ++ places_after (before + length (e ∷ es)) clerk k) [
        | true ↦ ap (λ l. (before + 1) ∷ l) rest
        | false ↦ rest
      ]

  -- one more entry of the clerk has the next place
  pub places_push : (clerk : ℕ) (h : List (Entry Command Answer)) (e : Entry Command Answer) → e.clerk ≡ clerk → places_of clerk (h ++ e ∷ []) ≡ places_of clerk h ++ (length h + 1) ∷ []
  places_push clerk h e own =
      let is : (e.clerk == clerk) ≡ true = (Decides-eqb e.clerk clerk).1 own in
      let count : 0 + length h + 1 ≡ length h + 1 = omega arith in
      let last : places_after (0 + length h) clerk (e ∷ []) ≡ (length h + 1) ∷ [] = rw is (ap (λ n. n ∷ []) count) in
      places_append 0 clerk h (e ∷ []) ∙ ap (λ l. places_of clerk h ++ l) last

  -- places in a history are places in each longer one
  pub within_longer : (clerk : ℕ) (mine : List ℕ) (h k : List (Entry Command Answer)) → IsPrefix h k → Within mine (places_of clerk h) → Within mine (places_of clerk k)
  within_longer clerk mine h k begins w =
      let all : places_of clerk k ≡ places_of clerk h ++ places_after (0 + length h) clerk begins.0 = ap (places_of clerk) (sym begins.1) ∙ places_append 0 clerk h begins.0 in
      subst (Within mine) (sym all) (within_more mine (places_of clerk h) (places_after (0 + length h) clerk begins.0) w)

  -- an entry of the clerk that comes next has its place after those
  pub within_next : (clerk : ℕ) (mine : List ℕ) (h : List (Entry Command Answer)) (e : Entry Command Answer) → e.clerk ≡ clerk → Within mine (places_of clerk h) → Within (mine ++ (length h + 1) ∷ []) (places_of clerk (h ++ e ∷ []))
  within_next clerk mine h e own w =
      subst (Within (mine ++ (length h + 1) ∷ [])) (sym (places_push clerk h e own)) (within_push mine (places_of clerk h) (length h + 1) w)
