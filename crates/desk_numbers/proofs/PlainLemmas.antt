-- Where all is at its place, all stays as it is.
use Rattle.std.proofs.Common.{◌≡◌, ◌∙◌, ℕ, true, List, [], ◌∷◌, Option, Some, None, length, map, nat_eq, refl, sym, ap, arith}
use Rattle.std.proofs.lemmas.Bool.Decides.{nat_tests}
use Rattle.hearing_slots.specs.declared.booking.Booking.{Booking}
use Rattle.docket_rows.specs.declared.answer.Answer.{Answer}
use Rattle.docket_rows.specs.declared.answer.Answer.TheVariants as answer
use Rattle.docket_rows.specs.declared.command.Command.{Command}
use Rattle.docket_rows.specs.declared.command.Command.TheVariants as command
use Rattle.docket_rows.specs.declared.fact.Ending.{Ending}
use Rattle.docket_rows.specs.declared.fact.Ending.TheVariants.{Moot, Vacated, Stayed, Suspended, SuspendedBy, Withdrawn, CaseClosed}
use Rattle.docket_rows.specs.declared.fact.Fact.TheVariants.{Ended, Resumed, Closed, Reopened, Ruled, Assigned, Titled, Labelled}
use Rattle.docket_rows.specs.declared.refusal.Refusal.{Refusal}
use Rattle.docket_rows.specs.declared.refusal.Refusal.TheVariants.{JudgeBusy, RoomBusy, HearingThatDay, NoticeLost, HearingAhead}
use Rattle.docket_rows.specs.declared.sheet.Sheet.{Sheet}
use Rattle.docket_rows.specs.declared.sheet.SheetDeadline.{SheetDeadline}
use Rattle.docket_rows.specs.declared.sheet.SheetMotion.{SheetMotion}
use Rattle.docket_rows.specs.declared.view.View.{View}
use Rattle.docket_rows.specs.declared.view.View.TheVariants as view
use Rattle.row_forms.specs.declared.row.Work.{Work}
use Rattle.row_forms.specs.declared.row.Work.TheVariants as work
use Rattle.office_texts.specs.declared.run.reply.Reply.{Reply}
use Rattle.office_texts.specs.declared.run.reply.Reply.TheVariants.{Made, Viewed}
use Rattle.docket_rows.specs.declared.command.Counted.{Counted}
use Rattle.docket_rows.specs.declared.command.Counted.TheVariants.{Deadline, Motion}
use Rattle.desk_numbers.specs.declared.moved.Moved.{Moved}
use Rattle.desk_numbers.specs.Laws.{WithNoneMovedNothingChanges}
use Rattle.desk_numbers.specs.Numbered.{case_of, numbered, numbered_answer, numbered_booking, numbered_deadline, numbered_ended, numbered_ending, numbered_motion, numbered_refusal, numbered_sheet, numbered_view, placed, placed_command, placed_ending, placed_named, placed_suspender}
use Rattle.desk_numbers.specs.Moved.{number_in, place_in}

same_place : (case : ℕ) (counted : Counted) (number : ℕ) → place_in [] case counted number ≡ number
unfolding place_in
same_place case counted number = refl

same_number : (case : ℕ) (counted : Counted) (place : ℕ) → number_in [] case counted place ≡ place
unfolding number_in
same_number case counted place = refl

same_ending : (case : ℕ) (why : Ending) → placed_ending [] case why ≡ why
same_ending case (SuspendedBy motion) = ap SuspendedBy (same_place case Motion motion)
same_ending case Moot = refl
same_ending case Vacated = refl
same_ending case Stayed = refl
same_ending case Suspended = refl
same_ending case Withdrawn = refl
same_ending case CaseClosed = refl

same_suspender : (c : Command) → placed_suspender [] c ≡ c
same_suspender (command.Fact case (Ended deadline why dated)) = ap (λ w. command.Fact case (Ended deadline w dated)) (same_ending case why)
same_suspender (command.Fact case (Resumed deadline day dated)) = refl
same_suspender (command.Fact case (Closed why dated)) = refl
same_suspender (command.Fact case (Reopened dated)) = refl
same_suspender (command.Fact case (Ruled motion how dated)) = refl
same_suspender (command.Fact case (Assigned judge referred dated)) = refl
same_suspender (command.Fact case Titled) = refl
same_suspender (command.Fact case (Labelled counted number)) = refl
same_suspender other = refl

same_named : (c : Command) → placed_named [] c ≡ c
same_named (command.FileAct case deadline filing) = ap (λ n. command.FileAct case n filing) (same_place case Deadline deadline)
same_named (command.Extend case deadline request) = ap (λ n. command.Extend case n request) (same_place case Deadline deadline)
same_named (command.Book s) = ap (λ n. command.Book (record s { motion = n })) (same_place s.case Motion s.motion)
same_named (command.MoveHearing s) = ap (λ n. command.MoveHearing (record s { motion = n })) (same_place s.case Motion s.motion)
same_named (command.Cancel case motion) = ap (λ n. command.Cancel case n) (same_place case Motion motion)
same_named (command.Fact case (Ended deadline why dated)) = ap (λ n. command.Fact case (Ended n why dated)) (same_place case Deadline deadline)
same_named (command.Fact case (Resumed deadline day dated)) = ap (λ n. command.Fact case (Resumed n day dated)) (same_place case Deadline deadline)
same_named (command.Fact case (Closed why dated)) = refl
same_named (command.Fact case (Reopened dated)) = refl
same_named (command.Fact case (Ruled motion how dated)) = ap (λ n. command.Fact case (Ruled n how dated)) (same_place case Motion motion)
same_named (command.Fact case (Assigned judge referred dated)) = refl
same_named (command.Fact case Titled) = refl
same_named (command.Fact case (Labelled counted number)) = ap (λ n. command.Fact case (Labelled counted n)) (same_place case counted number)
same_named other = refl

same_command : (c : Command) → placed_command [] c ≡ c
same_command c = ap (placed_suspender []) (same_named c) ∙ same_suspender c

same_work : (asked : Work) → placed [] asked ≡ asked
unfolding placed
same_work (work.Command command) = ap work.Command (same_command command)
same_work (work.Query query) = refl

same_refusal : (r : Refusal) → numbered_refusal [] r ≡ r
same_refusal (JudgeBusy case motion) = ap (JudgeBusy case) (same_number case Motion motion)
same_refusal (RoomBusy case motion) = ap (RoomBusy case) (same_number case Motion motion)
same_refusal (HearingThatDay case motion) = ap (HearingThatDay case) (same_number case Motion motion)
same_refusal (HearingAhead case motion) = ap (HearingAhead case) (same_number case Motion motion)
same_refusal (NoticeLost case motion) = ap (NoticeLost case) (same_number case Motion motion)
same_refusal other = refl

same_answer : (case : ℕ) (a : Answer) → numbered_answer [] case a ≡ a
same_answer case (answer.Started deadline shown) = ap (λ n. answer.Started n shown) (same_number case Deadline deadline)
same_answer case (answer.MotionEntered motion) = ap answer.MotionEntered (same_number case Motion motion)
same_answer case (answer.Refused refusal) = ap answer.Refused (same_refusal refusal)
same_answer case other = refl

map_same : {X : Type 0} (f : X → X) (xs : List X) → ((x : X) → f x ≡ x) → map f xs ≡ xs
map_same f [] h = refl
map_same f (x ∷ xs) h = rw (h x, map_same f xs h) refl

numbered_same : (case : ℕ) (why : Ending) → numbered_ending [] case why ≡ why
numbered_same case (SuspendedBy motion) = ap SuspendedBy (same_number case Motion motion)
numbered_same case Moot = refl
numbered_same case Vacated = refl
numbered_same case Stayed = refl
numbered_same case Suspended = refl
numbered_same case Withdrawn = refl
numbered_same case CaseClosed = refl

same_ended : (case : ℕ) (ended : Option Ending) → numbered_ended [] case ended ≡ ended
same_ended case (Some why) = ap Some (numbered_same case why)
same_ended case None = refl

same_deadlines : (case : ℕ) (deadlines : List SheetDeadline) → map (numbered_deadline [] case) deadlines ≡ deadlines
same_deadlines case deadlines =
    map_same (numbered_deadline [] case) deadlines (λ d. ap (λ (e : Option Ending). record d { number = number_in [] case Deadline d.number; ended = e }) (same_ended case d.ended) ∙ ap (λ n. record d { number = n }) (same_number case Deadline d.number))

same_motions : (case : ℕ) (motions : List SheetMotion) → map (numbered_motion [] case) motions ≡ motions
same_motions case motions = map_same (numbered_motion [] case) motions (λ m. ap (λ n. record m { number = n }) (same_number case Motion m.number))

same_sheet : (s : Sheet) → numbered_sheet [] s ≡ s
same_sheet s =
    ap (λ (d : List SheetDeadline). record s { deadlines = d; motions = map (numbered_motion [] s.case) s.motions }) (same_deadlines s.case s.deadlines)
    ∙ ap (λ (m : List SheetMotion). record s { motions = m }) (same_motions s.case s.motions)

same_bookings : (bookings : List Booking) → map (numbered_booking []) bookings ≡ bookings
same_bookings bookings = map_same (numbered_booking []) bookings (λ b. ap (λ n. record b { motion = n }) (same_number b.case Motion b.motion))

same_view : (v : View) → numbered_view [] v ≡ v
same_view (view.Sheet sheet) = ap view.Sheet (same_sheet sheet)
same_view (view.Bookings bookings) = ap view.Bookings (same_bookings bookings)
same_view (view.Computed end) = refl
same_view (view.Refused refusal) = ap view.Refused (same_refusal refusal)

same_reply : (asked : Work) (reply : Reply) → numbered [] asked reply ≡ reply
unfolding numbered
same_reply asked (Made made) = ap Made (same_answer (case_of asked) made)
same_reply asked (Viewed shown) = ap Viewed (same_view shown)

-- the law
pub nothing_changes : WithNoneMovedNothingChanges
nothing_changes asked reply = (same_work asked, same_reply asked reply)

none : (moved : List Moved) → nat_eq (length moved) 0 ≡ true → moved ≡ []
none [] h = refl
none (m ∷ moved) h = grind (arith, nat_tests)

-- where the list is empty
pub placed_alone : (moved : List Moved) (asked : Work) → nat_eq (length moved) 0 ≡ true → asked ≡ placed moved asked
placed_alone moved asked h = sym (ap (λ (l : List Moved). placed l asked) (none moved h) ∙ same_work asked)

pub numbered_alone : (moved : List Moved) (asked : Work) (reply : Reply) → nat_eq (length moved) 0 ≡ true → reply ≡ numbered moved asked reply
numbered_alone moved asked reply h = sym (ap (λ (l : List Moved). numbered l asked reply) (none moved h) ∙ same_reply asked reply)
