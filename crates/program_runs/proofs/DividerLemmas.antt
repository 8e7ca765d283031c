-- Where a division finds a line `%%`.
use Rattle.std.proofs.Common.{◌≡◌, ◌⊎◌, ◌∙◌, ◌<◌, ◌==◌, ℕ, zero, suc, Bool, true, false, List, [], ◌∷◌, ◌++◌, Option, Some, None, codes, cond, drop, eqb, length, refl, slice_get, sym, take, ap, arith, inl, inr}
use Rattle.std.specs.List.{starts_with}
use Rattle.std.specs.Option.{option_or, option_and_then}
use Rattle.std.proofs.lemmas.Bool.Decides.{Decides-eqb}
use Rattle.std.proofs.lemmas.Slice.Eq.{starts_is}
use Rattle.program_runs.specs.Division.{behind, behind_line_end, behind_divider, divided_at, divided_from, rows_part}
use Rattle.program_runs.specs.Divider.{FirstDividerDivides, HasDivider, StartsWithDivider}

-- what comes after a beginning
behind-some : (beginning bytes rest : List ℕ) → behind beginning bytes ≡ Some rest → bytes ≡ beginning ++ rest
behind-some beginning bytes rest found = by (starts_with eqb bytes beginning) refl found
  where
    by : (b : Bool) → starts_with eqb bytes beginning ≡ b → cond b (Some (drop (length beginning) bytes)) None ≡ Some rest → bytes ≡ beginning ++ rest
    by true starts e =
        let same : drop (length beginning) bytes ≡ rest = cc e in
        (starts_is Decides-eqb bytes beginning (starts_with eqb bytes beginning) refl).0 starts ∙ ap (λ l. beginning ++ l) same
    by false starts e = cc e

-- what comes after the end of a line
record EndsLine (bytes rows : List ℕ) : Type 0 where
  how : (bytes ≡ 10 ∷ rows) ⊎ (bytes ≡ 13 ∷ 10 ∷ rows) ⊎ ((bytes ≡ []) × (rows ≡ []))

line_end-some : (bytes rows : List ℕ) → behind_line_end bytes ≡ Some rows → EndsLine bytes rows
line_end-some [] rows found = record { how = inr (inr (refl, cc found)) }
line_end-some (b ∷ bytes) rows found = by (behind (10 ∷ []) (b ∷ bytes)) refl found
  where
    by : (o : Option (List ℕ)) → behind (10 ∷ []) (b ∷ bytes) ≡ o → option_or o (behind (13 ∷ 10 ∷ []) (b ∷ bytes)) ≡ Some rows → EndsLine (b ∷ bytes) rows
    by (Some rest) e found = record { how = inl (behind-some (10 ∷ []) (b ∷ bytes) rows (e ∙ found)) }
    by None e found = record { how = inr (inl (behind-some (13 ∷ 10 ∷ []) (b ∷ bytes) rows found)) }

-- a divider that is found is there
divider-some : (bytes rows : List ℕ) → behind_divider true bytes ≡ Some rows → StartsWithDivider bytes rows
divider-some bytes rows found = by (behind (codes "%%") bytes) refl found
  where
    ends : (rest : List ℕ) → bytes ≡ codes "%%" ++ rest → EndsLine rest rows → StartsWithDivider bytes rows
    ends rest split e = elim e.how [
      | inl feed ↦ record { divider = codes "%%" ++ 10 ∷ []; is_divider = inl refl; split = split ∙ ap (λ l. codes "%%" ++ l) feed }
      | inr other ↦ elim other [
        | inl both ↦ record { divider = codes "%%" ++ 13 ∷ 10 ∷ []; is_divider = inr (inl refl); split = split ∙ ap (λ l. codes "%%" ++ l) both }
        | inr end ↦ record { divider = codes "%%"; is_divider = inr (inr (refl, end.1)); split = split ∙ ap (λ l. codes "%%" ++ l) (end.0 ∙ sym end.1) }
      ]
    ]

    by : (o : Option (List ℕ)) → behind (codes "%%") bytes ≡ o → option_and_then behind_line_end o ≡ Some rows → StartsWithDivider bytes rows
    by (Some rest) e found = ends rest (behind-some (codes "%%") bytes rest e) (line_end-some rest rows found)
    by None e found = cc found

-- a divider that isn't found isn't there
divider-none : (bytes rows : List ℕ) → behind_divider true bytes ≡ None → StartsWithDivider bytes rows → ⊥
divider-none bytes rows none stands =
    elim stands.is_divider [
      | inl feed ↦ let split = stands.split ∙ ap (λ m. m ++ rows) feed in cc (rw split at none)
      | inr other ↦ elim other [
        | inl both ↦ let split = stands.split ∙ ap (λ m. m ++ rows) both in cc (rw split at none)
        | inr end ↦ let split : bytes ≡ codes "%%" = rw (end.0, end.1) at stands.split in cc (rw split at none)
      ]
    ]

-- no divider is in nothing
nothing-divider : (rows : List ℕ) → StartsWithDivider [] rows → ⊥
nothing-divider rows stands =
    elim stands.is_divider [
      | inl feed ↦ cc (stands.split ∙ ap (λ m. m ++ rows) feed)
      | inr other ↦ elim other [
        | inl both ↦ cc (stands.split ∙ ap (λ m. m ++ rows) both)
        | inr end ↦ cc (stands.split ∙ ap (λ m. m ++ rows) end.0)
      ]
    ]

drop-nothing : (k : ℕ) → drop {A = ℕ} k [] ≡ []
drop-nothing zero = refl
drop-nothing (suc k) = refl

-- where a line begins, if the test says whether the first byte does
Begins : Bool → List ℕ → ℕ → Type 0
Begins begins_line input zero = begins_line ≡ true
Begins begins_line input (suc i) = slice_get input i ≡ Some 10

record HasDividerFrom (begins_line : Bool) (input : List ℕ) (i : ℕ) (rows : List ℕ) : Type 0 where
  begins : Begins begins_line input i
  line : StartsWithDivider (drop i input) rows

record Divided (begins_line : Bool) (input : List ℕ) (parts : List ℕ × List ℕ) : Type 0 where
  place : ℕ
  stands : HasDividerFrom begins_line input place parts.1
  first : (k : ℕ) (rows : List ℕ) → k < place → HasDividerFrom begins_line input k rows → ⊥
  court : parts.0 ≡ take place input

record Undivided (begins_line : Bool) (input : List ℕ) (parts : List ℕ × List ℕ) : Type 0 where
  none : (k : ℕ) (rows : List ℕ) → HasDividerFrom begins_line input k rows → ⊥
  court : parts.0 ≡ input
  rows : parts.1 ≡ []

-- one byte further on
further : (begins_line : Bool) (b : ℕ) (bytes : List ℕ) (i : ℕ) → Begins (b == 10) bytes i → Begins begins_line (b ∷ bytes) (suc i)
unfolding Begins
further begins_line b bytes zero h = ap Some ((Decides-eqb b 10).0 h)
further begins_line b bytes (suc i) h = h

nearer : (begins_line : Bool) (b : ℕ) (bytes : List ℕ) (i : ℕ) → Begins begins_line (b ∷ bytes) (suc i) → Begins (b == 10) bytes i
unfolding Begins
nearer begins_line b bytes zero h = (Decides-eqb b 10).1 (cc h)
nearer begins_line b bytes (suc i) h = h

-- no divider is before or at this byte, if none is found at it and none before the place after it
not_before : (begins_line : Bool) (b : ℕ) (bytes : List ℕ) (k : ℕ) (rows : List ℕ) → behind_divider begins_line (b ∷ bytes) ≡ None
    → ((j : ℕ) → suc j ≡ k → HasDividerFrom (b == 10) bytes j rows → ⊥) → HasDividerFrom begins_line (b ∷ bytes) k rows → ⊥
unfolding Begins
not_before begins_line b bytes zero rows none later stands = divider-none (b ∷ bytes) rows (rw stands.begins at none) stands.line
not_before begins_line b bytes (suc j) rows none later stands = later j refl (record { begins = nearer begins_line b bytes j stands.begins; line = stands.line })

begins_here : (begins_line : Bool) (bytes rows : List ℕ) → behind_divider begins_line bytes ≡ Some rows → (begins_line ≡ true) × StartsWithDivider bytes rows
begins_here true bytes rows found = (refl, divider-some bytes rows found)
begins_here false bytes rows found = cc found

divides : (begins_line : Bool) (input : List ℕ) → Divided begins_line input (divided_from begins_line input) ⊎ Undivided begins_line input (divided_from begins_line input)
unfolding Begins divided_from
divides begins_line [] = inr (record { none = λ k rows stands. nothing-divider rows (rw (drop-nothing k) at stands.line); court = refl; rows = refl })
divides begins_line (b ∷ bytes) = by (behind_divider begins_line (b ∷ bytes)) refl (divided_from (b == 10) bytes) (divides (b == 10) bytes)
  where
    by : (o : Option (List ℕ)) → behind_divider begins_line (b ∷ bytes) ≡ o → (parts : List ℕ × List ℕ) → Divided (b == 10) bytes parts ⊎ Undivided (b == 10) bytes parts
        → Divided begins_line (b ∷ bytes) (divided_at o b parts) ⊎ Undivided begins_line (b ∷ bytes) (divided_at o b parts)
    by (Some rows) found parts later =
        let here = begins_here begins_line (b ∷ bytes) rows found in
        inl (record { place = 0; stands = record { begins = here.0; line = here.1 }; first = λ k rows before. absurd (omega arith); court = refl })
    by None none parts (inl d) =
        inl (record {
          place = suc d.place;
          stands = record { begins = further begins_line b bytes d.place d.stands.begins; line = d.stands.line };
          first = λ k rows before. not_before begins_line b bytes k rows none (λ j e. d.first j rows (omega arith));
          court = ap (λ l. b ∷ l) d.court;
        })
    by None none parts (inr u) =
        inr (record {
          none = λ k rows. not_before begins_line b bytes k rows none (λ j e. u.none j rows);
          court = ap (λ l. b ∷ l) u.court;
          rows = u.rows;
        })

-- at the start of the input a line begins
from_start : (input : List ℕ) (i : ℕ) (rows : List ℕ) → HasDividerFrom true input i rows → HasDivider input i rows
unfolding Begins
from_start input zero rows stands = record { begins = tt; line = stands.line }
from_start input (suc i) rows stands = record { begins = stands.begins; line = stands.line }

to_start : (input : List ℕ) (i : ℕ) (rows : List ℕ) → HasDivider input i rows → HasDividerFrom true input i rows
unfolding Begins
to_start input zero rows stands = record { begins = refl; line = stands.line }
to_start input (suc i) rows stands = record { begins = stands.begins; line = stands.line }

pub first_divider_divides_lem : FirstDividerDivides
first_divider_divides_lem input =
    elim (divides true input) [
      | inl d ↦ inl (record { place = d.place; stands = from_start input d.place (rows_part input) d.stands; first = λ k rows before stands. d.first k rows before (to_start input k rows stands); court = d.court })
      | inr u ↦ inr (record { none = λ k rows stands. u.none k rows (to_start input k rows stands); court = u.court; rows = u.rows })
    ]
