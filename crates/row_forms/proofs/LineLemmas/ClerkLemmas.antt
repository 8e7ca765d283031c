-- The clerk of a line, by the records that its reader has.
use Rattle.std.proofs.Common.{◌≡◌, ◌∙◌, ℕ, Bool, true, false, cond, List, [], ◌∷◌, None, ap}
use Rattle.std.specs.List.{list_all}
use Rattle.std.specs.Str.{is_utf8}
use Rattle.csv.specs.Reading.{default_config, records, strip_bom}
use Rattle.row_forms.specs.Words.{clerk_of, column}
use Rattle.row_forms.specs.Line.Clerk.{clerk_read, first_clerk}

module _ (clerks : ℕ) (bytes : List ℕ) where
  -- there is no record
  pub no_clerk : records default_config (strip_bom bytes) ≡ [] → clerk_read clerks bytes ≡ None
  unfolding clerk_read
  no_clerk none = ap (first_clerk clerks) none

  -- there is one, with a field that is no text
  pub clerk_unread : (fields : List (List ℕ)) (more : List (List (List ℕ))) → records default_config (strip_bom bytes) ≡ fields ∷ more → list_all is_utf8 fields ≡ false → clerk_read clerks bytes ≡ None
  unfolding clerk_read
  clerk_unread fields more there no_text = ap (first_clerk clerks) there ∙ ap (λ (b : Bool). cond b (clerk_of clerks (column fields 1)) None) no_text

  -- there is one, and its fields are text
  pub clerk_first : (fields : List (List ℕ)) (more : List (List (List ℕ))) → records default_config (strip_bom bytes) ≡ fields ∷ more → list_all is_utf8 fields ≡ true → clerk_read clerks bytes ≡ clerk_of clerks (column fields 1)
  unfolding clerk_read
  clerk_first fields more there text = ap (first_clerk clerks) there ∙ ap (λ (b : Bool). cond b (clerk_of clerks (column fields 1)) None) text
