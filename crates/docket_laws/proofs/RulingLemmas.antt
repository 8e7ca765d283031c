-- What a ruling does to hearings: a later one of its motion is off the calendar, and all others stay.
use Rattle.std.proofs.Common.{◌≡◌, ℕ, ℤ, int_lt, Bool, true, false, is_some, Option, Some, None, option_map, if◌then◌else◌, refl, ap, ◌∙◌}
use Rattle.std.specs.Option.{option_map_or}
use Rattle.docket_rows.specs.declared.command.Command.TheVariants as command
use Rattle.docket_rows.specs.declared.fact.Fact.TheVariants.{Ruled}
use Rattle.docket_rows.specs.declared.fact.Ruling.{Ruling}
use Rattle.docket_rows.specs.declared.hearing.Hearing.{Hearing}
use Rattle.docket_rows.specs.declared.refusal.Refusal.{Refusal}
use Rattle.docket_rows.specs.Words.{CourtSetup, Rows, DocketedHearing, hearing_of, if_ahead, parts_of, refusal, rows_after, step, with_fact, without_hearing}
use Rattle.docket_laws.proofs.PartsHearings.{found_left, none_set}

module _ (rows : Rows) (case motion : ℕ) where
  -- the rows after this hearing of the motion, if any, is taken out
  abbrev pub rows_without : (taken : Option Hearing) → Rows
  rows_without taken = record rows { hearings = if is_some taken then (without_hearing case motion rows).hearings else rows.hearings }

  -- none of the motion is later
  none_ahead_left : (dated : ℤ) (found : Option Hearing) → hearing_of rows case motion ≡ found → if_ahead dated (hearing_of (rows_without (if_ahead dated found)) case motion) ≡ None
  none_ahead_left dated None is = ap (if_ahead dated) is
  none_ahead_left dated (Some h) is = by (int_lt dated h.day) refl where
    by : (later : Bool) → int_lt dated h.day ≡ later → if_ahead dated (hearing_of (rows_without (if later then Some h else None)) case motion) ≡ None
    by true is_later = ap (if_ahead dated) (none_set rows case motion)
    by false not_later = ap (if_ahead dated) is ∙ ap (λ (later : Bool). if later then Some h else None) not_later

  -- those of other motions are as before
  same_of_others : (taken : Option Hearing) (n k : ℕ) → ((n ≡ case) × (k ≡ motion) → ⊥) → hearing_of (rows_without taken) n k ≡ hearing_of rows n k
  same_of_others None n k differ = refl
  same_of_others (Some h) n k differ = ap (option_map (λ (x : DocketedHearing). x.hearing)) (found_left rows case motion n k differ)

module _ (setup : CourtSetup) (rows : Rows) (case motion : ℕ) (how : Ruling) (dated : ℤ) where
  -- after a ruling that isn't refused
  pub none_later : refusal setup (parts_of rows) (command.Fact case (Ruled motion how dated)) ≡ None → if_ahead dated (hearing_of (step setup rows (command.Fact case (Ruled motion how dated))).0 case motion) ≡ None
  unfolding step
  none_later made = by (refusal setup (parts_of rows) (command.Fact case (Ruled motion how dated))) made where
    by : (o : Option Refusal) → o ≡ None → if_ahead dated (hearing_of (option_map_or (λ r. rows) o (rows_after rows (command.Fact case (Ruled motion how dated)))) case motion) ≡ None
    by None none = none_ahead_left (with_fact case (Ruled motion how dated) rows) case motion dated (hearing_of rows case motion) refl
    by (Some r) none = absurd cc

  -- after any ruling
  pub earlier_stays : if_ahead dated (hearing_of rows case motion) ≡ None → (step setup rows (command.Fact case (Ruled motion how dated))).0.hearings ≡ rows.hearings
  unfolding step
  earlier_stays none = by (refusal setup (parts_of rows) (command.Fact case (Ruled motion how dated))) where
    by : (o : Option Refusal) → (option_map_or (λ r. rows) o (rows_after rows (command.Fact case (Ruled motion how dated)))).hearings ≡ rows.hearings
    by None = ap (λ (taken : Option Hearing). if is_some taken then (without_hearing case motion rows).hearings else rows.hearings) none
    by (Some r) = refl

  pub others_stay : (n k : ℕ) → ((n ≡ case) × (k ≡ motion) → ⊥) → hearing_of (step setup rows (command.Fact case (Ruled motion how dated))).0 n k ≡ hearing_of rows n k
  unfolding step
  others_stay n k differ = by (refusal setup (parts_of rows) (command.Fact case (Ruled motion how dated))) where
    by : (o : Option Refusal) → hearing_of (option_map_or (λ r. rows) o (rows_after rows (command.Fact case (Ruled motion how dated)))) n k ≡ hearing_of rows n k
    by None = same_of_others (with_fact case (Ruled motion how dated) rows) case motion (if_ahead dated (hearing_of rows case motion)) n k differ
    by (Some r) = refl
