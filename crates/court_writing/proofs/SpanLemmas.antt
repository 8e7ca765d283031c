-- What holds of the days of a span, one after another, holds of each of them.
use Rattle.std.proofs.Common.{◌≡◌, ℕ, ◌+◌, ◌<◌, ◌≤◌, ℤ, pos, ◌+ℤ◌, ◌-ℤ◌, ◌≤ℤ◌, unsigned_abs, subst, sym, ap, ◌∙◌, inl, inr, arith}
use Rattle.std.proofs.lemmas.Int.{ints}
use Rattle.std.proofs.lemmas.Bool.{cases_eq}
use Rattle.court_clock.specs.Words.{days_through}
use Rattle.court_clock.proofs.CallerLemmas.{distance_within}

-- of the first days and the next
pub one_more : (P : ℤ → Type 0) (first next : ℤ) (n : ℕ) → next ≡ first +ℤ pos n → ((k : ℕ) → k < n → P (first +ℤ pos k)) → P next → (k : ℕ) → k < n + 1 → P (first +ℤ pos k)
one_more P first next n is so_far here k below = elim (cases_eq k n) [
  | inl last ↦ subst P (is ∙ ap (λ j. first +ℤ pos j) (sym last)) here
  | inr other ↦ so_far k (omega (arith, other, below))
]

pub of_each : (P : ℤ → Type 0) (first last : ℤ) (n : ℕ) → days_through first last ≤ n → ((k : ℕ) → k < n → P (first +ℤ pos k)) → (d : ℤ) → first ≤ℤ d → d ≤ℤ last → P d
of_each P first last n all each d low high =
    let k : ℕ = unsigned_abs (d -ℤ first) in
    let is : first +ℤ pos k ≡ d = omega (arith, ints, low) in
    let near : pos k ≤ℤ (last -ℤ first) = omega (arith, ints, low, high) in
    let within : k < n = omega (arith, all, distance_within first last k (omega (arith, ints, low, high)) near) in
    subst P is (each k within)
