-- The rows of one clerk among those of all.
use Rattle.std.proofs.Common.{◌≡◌, ℕ, ◌==◌, if◌then◌else◌, true, false, List, [], ◌∷◌, ◌++◌, refl, ap, sym, ◌∙◌}
use Rattle.std.proofs.lemmas.Bool.Decides.{Decides-eqb}
use mathlib.Core.List.{IsPrefix}
use Rattle.row_forms.specs.declared.row.Row.{Row}
use Rattle.row_forms.specs.declared.row.Work.{Work}
use Rattle.clerk_workers.specs.declared.answer.SharedReply.{SharedReply}
use Rattle.clerk_workers.specs.Rows.{answers_of, works_of}

module _ (clerk : ℕ) where
  -- in some rows and then others
  pub works_append : (rows more : List Row) → works_of clerk (rows ++ more) ≡ works_of clerk rows ++ works_of clerk more
  works_append [] more = refl
  works_append (row ∷ rows) more =
      let rest = works_append rows more in
      elim (row.clerk == clerk) as (λ b. (if b then row.work ∷ works_of clerk (rows ++ more) else works_of clerk (rows ++ more)) ≡ (if b then row.work ∷ works_of clerk rows else works_of clerk rows) ++ works_of clerk more) [
        | true ↦ ap (λ (ws : List Work). row.work ∷ ws) rest
        | false ↦ rest
      ]

  -- a row of the clerk's, and one of another's
  pub works_own : (row : Row) → row.clerk ≡ clerk → works_of clerk (row ∷ []) ≡ row.work ∷ []
  works_own row own = let is : (row.clerk == clerk) ≡ true = (Decides-eqb row.clerk clerk).1 own in rw is

  pub works_other : (row : Row) → (row.clerk ≡ clerk → ⊥) → works_of clerk (row ∷ []) ≡ []
  works_other row other =
      (elim (row.clerk == clerk) as (λ b. (row.clerk == clerk) ≡ b → (if b then row.work ∷ [] else []) ≡ []) [
        | true ↦ λ is. absurd (other ((Decides-eqb row.clerk clerk).0 is))
        | false ↦ λ is. refl
      ]) refl

  -- those among the first rows come first
  pub works_begin : (first rows : List Row) → IsPrefix first rows → IsPrefix (works_of clerk first) (works_of clerk rows)
  works_begin first rows begins = (works_of clerk begins.0, sym (works_append first begins.0) ∙ ap (works_of clerk) begins.1)

  -- the answers at a row of the clerk's and after it, and at one of another's
  pub answers_own : (row : Row) (rows : List Row) (answer : SharedReply) (answers : List SharedReply) → row.clerk ≡ clerk → answers_of clerk (row ∷ rows) (answer ∷ answers) ≡ answer ∷ answers_of clerk rows answers
  answers_own row rows answer answers own = let is : (row.clerk == clerk) ≡ true = (Decides-eqb row.clerk clerk).1 own in rw is

  pub answers_other : (row : Row) (rows : List Row) (answer : SharedReply) (answers : List SharedReply) → (row.clerk ≡ clerk → ⊥) → answers_of clerk (row ∷ rows) (answer ∷ answers) ≡ answers_of clerk rows answers
  answers_other row rows answer answers other =
      (elim (row.clerk == clerk) as (λ b. (row.clerk == clerk) ≡ b → (if b then answer ∷ answers_of clerk rows answers else answers_of clerk rows answers) ≡ answers_of clerk rows answers) [
        | true ↦ λ is. absurd (other ((Decides-eqb row.clerk clerk).0 is))
        | false ↦ λ is. refl
      ]) refl
