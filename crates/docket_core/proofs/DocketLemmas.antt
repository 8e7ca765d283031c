-- The parts of a docket, before any command and after each.
use Rattle.std.proofs.Common.{◌≡◌, ℕ, zero, suc, List, [], ◌∷◌, get_or, None, All, Result, Ok, Err, IfOk, IfErr, ap, refl, ◌∙◌}
use Rattle.std.proofs.Math.Logic.{∥∥₁_map}
use Rattle.std.proofs.lemmas.List.Elements.{All-head, All-tail}
use Rattle.docket_rows.specs.declared.answer.Answer.{Answer}
use Rattle.docket_rows.specs.declared.command.Command.{Command}
use Rattle.docket_rows.specs.declared.part.PartId.{PartId}
use Rattle.docket_rows.specs.declared.part.PartId.TheVariants.{Court, Judge, Room, Case}
use Rattle.docket_rows.specs.declared.part.PartValue.TheVariants as value
use Rattle.docket_rows.specs.declared.query.Query.{Query}
use Rattle.docket_rows.specs.declared.view.View.{View}
use Rattle.docket_rows.specs.Words.{CourtSetup, Rows, AreSound, part_value, part_after, parts_of, opening_rows, answered, seen_by, step, view_of}
use Rattle.docket_laws.proofs.CallerLemmas.{sound_opening, lawful_opening, sound_step, lawful_step, step_answer, step_parts, same_view}
use Rattle.docket_core.specs.Docket.{DocketView, parts_held, StandsFor, IsDocket}

-- where each element is the same, so is what stands at a place or past the end
pub same_at : {X : Type 0} (xs : List X) (e : X) (i : ℕ) → All (λ x. x ≡ e) xs → get_or xs i e ≡ e
same_at [] e zero all = refl
same_at [] e (suc i) all = refl
same_at (x ∷ xs) e zero all = All-head (λ y. y ≡ e) x xs all
same_at (x ∷ xs) e (suc i) all = same_at xs e i (All-tail (λ y. y ≡ e) x xs all)

-- no case is open, and no calendar has a booking
pub opening_parts : (setup : CourtSetup) (d : DocketView) → d.days ≡ setup.days → All (λ c. c ≡ None) d.cases → All (λ c. c ≡ []) d.judges → All (λ c. c ≡ []) d.rooms → (part : PartId) → part_value (parts_held d) part ≡ part_value (parts_of (opening_rows setup)) part
unfolding parts_of
opening_parts setup d days cases judges rooms Court = ap value.Days days
opening_parts setup d days cases judges rooms (Judge j) = ap value.Calendar (same_at d.judges [] j judges)
opening_parts setup d days cases judges rooms (Room r) = ap value.Calendar (same_at d.rooms [] r rooms)
opening_parts setup d days cases judges rooms (Case c) = ap value.Case (same_at d.cases None c cases)

-- the docket before any command stands for lawful rows
pub opening_docket : (setup : CourtSetup) (d : DocketView) → d.setup ≡ setup → StandsFor d (opening_rows setup) → IsDocket d
opening_docket setup d is stands =
    ∣ (opening_rows setup, rw is (sound_opening setup), rw is (lawful_opening setup), stands) ∣₁

-- the parts after a command are those of the rows after its step
pub stands_after : (before after : DocketView) (command : Command) (rows : Rows) → ((part : PartId) → part_value (parts_held after) part ≡ part_after before.setup (parts_held before) command part) → AreSound before.setup rows → StandsFor before rows → StandsFor after (step before.setup rows command).0
stands_after before after command rows parts sound stands part =
    parts part ∙ step_parts before.setup (parts_held before) rows command sound stands part

-- and so does the docket after a command
pub docket_step : (before after : DocketView) (command : Command) → after.setup ≡ before.setup → ((part : PartId) → part_value (parts_held after) part ≡ part_after before.setup (parts_held before) command part) → IsDocket before → IsDocket after
docket_step before after command is parts held =
    ∥∥₁_map held (λ h. (
      (step before.setup h.0 command).0,
      rw is (sound_step before.setup h.0 command h.1),
      rw is (lawful_step before.setup h.0 command h.1 h.2),
      stands_after before after command h.0 parts h.1 h.3,
    ))

-- whatever a command is answered, the docket still stands for lawful rows
pub still_docket : {E : Type 0} (before after : DocketView) (command : Command) (result : Result Answer E) → after.setup ≡ before.setup → IfOk result (λ a. (part : PartId) → part_value (parts_held after) part ≡ part_after before.setup (parts_held before) command part) → IfErr result (λ e. after ≡ before) → IsDocket before → IsDocket after
still_docket before after command (Ok a) is parts err held = docket_step before after command is parts held
still_docket before after command (Err e) is parts err held = rw err held

-- where it isn't for want of memory, the answer and the rows are those of the step
pub step_made : {E : Type 0} (before after : DocketView) (command : Command) (result : Result Answer E) → IfOk result (λ a. a ≡ answered before.setup (parts_held before) command) → IfOk result (λ a. (part : PartId) → part_value (parts_held after) part ≡ part_after before.setup (parts_held before) command part) → (rows : Rows) → AreSound before.setup rows → StandsFor before rows → IfOk result (λ a. (a ≡ (step before.setup rows command).1) × StandsFor after (step before.setup rows command).0)
step_made before after command (Ok a) answer parts rows sound stands =
    (answer ∙ step_answer before.setup (parts_held before) rows command stands, stands_after before after command rows parts sound stands)
step_made before after command (Err e) answer parts rows sound stands = tt

-- what a query shows of the docket it shows of the rows
pub shown_of_rows : {E : Type 0} (d : DocketView) (query : Query) (result : Result View E) → IfOk result (λ v. v ≡ seen_by d.setup (parts_held d) query) → (rows : Rows) → StandsFor d rows → IfOk result (λ v. v ≡ view_of d.setup rows query)
shown_of_rows d query (Ok v) shown rows stands = shown ∙ same_view d.setup (parts_held d) (parts_of rows) query stands
shown_of_rows d query (Err e) shown rows stands = tt
