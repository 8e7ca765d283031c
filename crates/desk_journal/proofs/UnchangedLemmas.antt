-- A file whose last two bytes were read.
use Rattle.std.proofs.Common.{◌≡◌, ◌+◌, ℕ, List, [], ◌∷◌, ◌++◌, length, take, drop, refl, sym, ◌∙◌, ap, subst, arith, take-append-drop}
use Rattle.std.proofs.lemmas.List.{drop_at, length-take-le}
use Rattle.sqlite_disk.specs.Disk.{Holds}
use Rattle.desk_journal.specs.Frames.{IsShut}
use Rattle.desk_journal.specs.Kept.{IsUnchanged}
use Rattle.desk_journal.proofs.RecoverLemmas.{held_from, shut_rest}

module _ (file : List ℕ) (end : ℕ) (bytes : List ℕ) (long : length file ≡ end + 2) (two : length bytes ≡ 2) (read : Holds file end bytes) where
  last_two : drop end file ≡ bytes
  last_two = sym (held_from file bytes end (omega (arith, long, two)) (λ some. read))

  pub shut_is_unchanged : IsShut bytes → IsUnchanged file end
  shut_is_unchanged shut = (take end file, length-take-le end file (omega (arith, long)), sym (take-append-drop end file) ∙ ap (λ (l : List ℕ). take end file ++ l) (last_two ∙ both))
    where
      none : drop 2 bytes ≡ []
      none = by bytes two
        where
          by : (l : List ℕ) → length l ≡ 2 → drop 2 l ≡ []
          by [] e = absurd (omega (arith, e))
          by (a ∷ []) e = absurd (omega (arith, e))
          by (a ∷ b ∷ []) e = refl
          by (a ∷ b ∷ c ∷ l) e = absurd (omega (arith, e))

      both : bytes ≡ 45 ∷ 45 ∷ []
      both = shut_rest bytes shut ∙ ap (λ (l : List ℕ). 45 ∷ 45 ∷ l) none

  pub unchanged_is_shut : IsUnchanged file end → IsShut bytes
  unchanged_is_shut same =
      subst IsShut (sym (drop_at same.0 (45 ∷ 45 ∷ []) end same.1) ∙ ap (drop end) (sym same.2) ∙ last_two) (refl, refl)
