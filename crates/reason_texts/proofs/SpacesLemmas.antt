-- Some spaces are one and those that follow; and the length of a text that was added after another.
use Rattle.std.proofs.lemmas.List.{length-append}
use Rattle.std.proofs.Common.{◌≡◌, ◌<◌, ◌-◌, ◌++◌, ◌∙◌, ℕ, zero, suc, List, [], ◌∷◌, length, replicate, append_assoc, refl, sym, ap, arith}

abbrev spaces : ℕ → List ℕ
spaces n = replicate n 32

spaces_less : (n : ℕ) → 0 < n → spaces n ≡ 32 ∷ spaces (n - 1)
spaces_less zero some = absurd (omega (arith, some))
spaces_less (suc n) some =
    let e : suc n - 1 ≡ n = omega arith in
    rw e refl

pub one_space_more : (text : List ℕ) (n : ℕ) → 0 < n → (text ++ 32 ∷ []) ++ spaces (n - 1) ≡ text ++ spaces n
one_space_more text n some = append_assoc text (32 ∷ []) (spaces (n - 1)) ∙ ap (λ s. text ++ s) (sym (spaces_less n some))

pub length_behind : (before added : List ℕ) → length (before ++ added) - length before ≡ length added
length_behind before added = rw (length-append before added) (omega arith)
