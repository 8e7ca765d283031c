-- What a booking, a move, a cancellation or a ruling does to calendars.
use Rattle.std.proofs.Common.{◌≡◌, ℕ, zero, suc, ◌+◌, ◌≤◌, Bool, true, false, ◌==◌, List, [], ◌∷◌, length, get_or, Option, Some, None, unwrap_or, if◌then◌else◌, refl, ap, sym, ◌∙◌, subst, arith}
use Rattle.std.proofs.lemmas.Bool.Decides.{nat_tests}
use Rattle.hearing_slots.specs.declared.booking.Booking.{Booking}
use Rattle.hearing_slots.specs.Words.{IsWithinDay, IsFree}
use Rattle.docket_rows.specs.declared.command.Command.{Command}
use Rattle.docket_rows.specs.declared.command.Command.TheVariants.{Book, MoveHearing, Cancel, Fact}
use Rattle.docket_rows.specs.declared.fact.Fact.TheVariants.{Ended, Resumed, Closed, Reopened, Ruled, Assigned, Titled, Labelled}
use Rattle.docket_rows.specs.declared.hearing.Hearing.{Hearing}
use Rattle.docket_rows.specs.declared.hearing.Setting.{Setting}
use Rattle.docket_rows.specs.declared.rebooking.CalendarChange.{CalendarChange}
use Rattle.docket_rows.specs.declared.rebooking.Rebooking.{Rebooking}
use Rattle.docket_rows.specs.Words.{CourtSetup, Parts, refusal, case_of, booking_of, placement_of, rebooking_of, change_to, judge_change, room_change, first_judge, sits}
use Rattle.docket_laws.specs.Words.{CanSet}
use Rattle.docket_laws.proofs.CallerLemmas.{can_book, can_move, slots_of}
use Rattle.docket_core.specs.Inside.Rebooking.{CanRebook, calendar_after, calendars_after, CanChange, CanChangeAll}

-- the hearing of a command that isn't refused can be set
pub can_rebook : (setup : CourtSetup) (parts : Parts) (command : Command) → refusal setup parts command ≡ None → CanRebook parts command
can_rebook setup parts (Book s) made = can_book setup parts s made
can_rebook setup parts (MoveHearing s) made = can_move setup parts s made
can_rebook setup parts (Fact case (Ended deadline why dated)) made = tt
can_rebook setup parts (Fact case (Resumed deadline day dated)) made = tt
can_rebook setup parts (Fact case (Closed why dated)) made = tt
can_rebook setup parts (Fact case (Reopened dated)) made = tt
can_rebook setup parts (Fact case (Ruled motion how dated)) made = tt
can_rebook setup parts (Fact case (Assigned judge referred dated)) made = tt
can_rebook setup parts (Fact case Titled) made = tt
can_rebook setup parts (Fact case (Labelled counted number)) made = tt
can_rebook setup parts _ made = tt

-- its booking lies within its day, and its slots are free in the calendar of its room
booking_within : (parts : Parts) (other : ℕ) (s : Setting) → CanSet parts s → IsWithinDay (booking_of parts other s)
booking_within parts other s can =
    let slots = slots_of s.first s.count can.fits in
    record { some_slot = slots.0; ends = slots.1 }

room_free : (parts : Parts) (s : Setting) (room : ℕ) → CanSet parts s → (s.room == room) ≡ true → IsFree (parts.room room) s.day s.first s.count (Some (s.case, s.motion))
room_free parts s room can h =
    let same : s.room ≡ room = grind (arith, nat_tests) in
    subst (λ (r : ℕ). IsFree (parts.room r) s.day s.first s.count (Some (s.case, s.motion))) same can.room

-- so it can be put into the calendars into which it belongs
can_put : (case motion : ℕ) (stands belongs : Bool) (b : Booking) (bookings : List Booking) → IsWithinDay b → (belongs ≡ true → IsFree bookings b.day b.first b.count (Some (b.case, b.motion))) → CanChange (change_to case motion stands (if belongs then Some b else None)) bookings
can_put case motion stands true b bookings within free = (within, free refl)
can_put case motion true false b bookings within free = tt
can_put case motion false false b bookings within free = tt

-- the rebooking of a hearing that is asked for
abbrev pub to_set : Parts → Setting → (before : Option Hearing) → Rebooking
to_set parts s before = record { case = s.case; motion = s.motion; before = before; after = Some (placement_of parts s) }

judge_can_put : (parts : Parts) (s : Setting) (before : Option Hearing) (judge : ℕ) → CanSet parts s → CanChange (judge_change (to_set parts s before) judge) (parts.judge judge)
judge_can_put parts s before judge can =
    can_put s.case s.motion _ (sits judge s.judges) (booking_of parts s.room s) (parts.judge judge) (booking_within parts s.room s can) (can.judges judge)

room_can_put : (parts : Parts) (s : Setting) (before : Option Hearing) (room : ℕ) → CanSet parts s → CanChange (room_change (to_set parts s before) room) (parts.room room)
room_can_put parts s before room can =
    can_put s.case s.motion _ (s.room == room) (booking_of parts (first_judge s.judges) s) (parts.room room) (booking_within parts (first_judge s.judges) s can) (room_free parts s room can)

can_take_out : (case motion : ℕ) (stands : Bool) (bookings : List Booking) → CanChange (change_to case motion stands None) bookings
can_take_out case motion true bookings = tt
can_take_out case motion false bookings = tt

-- what holds of the command's rebooking holds of an equal one
pub same_rebooking : (P : Rebooking → Type 0) (r s : Rebooking) → Some r ≡ Some s → P s → P r
same_rebooking P r s is h = subst P (sym (ap (λ o. unwrap_or o r) is)) h

-- the rebooking is in the case that its command is about
pub rebooked_case : (parts : Parts) (command : Command) (r : Rebooking) → Some r ≡ rebooking_of parts command → case_of command ≡ Some r.case
rebooked_case parts (Book s) r is = same_rebooking (λ r. Some s.case ≡ Some r.case) r _ is refl
rebooked_case parts (MoveHearing s) r is = same_rebooking (λ r. Some s.case ≡ Some r.case) r _ is refl
rebooked_case parts (Cancel case motion) r is = same_rebooking (λ r. Some case ≡ Some r.case) r _ is refl
rebooked_case parts (Fact case (Ruled motion how dated)) r is = same_rebooking (λ r. Some case ≡ Some r.case) r _ is refl
rebooked_case parts _ r is = absurd cc

-- so each calendar can be changed
abbrev pub JudgeCanChange : Parts → (judge : ℕ) → Rebooking → Type 0
JudgeCanChange parts judge r = CanChange (judge_change r judge) (parts.judge judge)

pub judge_can_change : (parts : Parts) (command : Command) (r : Rebooking) (judge : ℕ) → CanRebook parts command → Some r ≡ rebooking_of parts command → JudgeCanChange parts judge r
judge_can_change parts (Book s) r judge can is = same_rebooking (JudgeCanChange parts judge) r _ is (judge_can_put parts s _ judge can)
judge_can_change parts (MoveHearing s) r judge can is = same_rebooking (JudgeCanChange parts judge) r _ is (judge_can_put parts s _ judge can)
judge_can_change parts (Cancel case motion) r judge can is =
    same_rebooking (JudgeCanChange parts judge) r _ is (can_take_out case motion _ (parts.judge judge))
judge_can_change parts (Fact case (Ruled motion how dated)) r judge can is =
    same_rebooking (JudgeCanChange parts judge) r _ is (can_take_out case motion _ (parts.judge judge))
judge_can_change parts _ r judge can is = absurd cc

abbrev pub RoomCanChange : Parts → (room : ℕ) → Rebooking → Type 0
RoomCanChange parts room r = CanChange (room_change r room) (parts.room room)

pub room_can_change : (parts : Parts) (command : Command) (r : Rebooking) (room : ℕ) → CanRebook parts command → Some r ≡ rebooking_of parts command → RoomCanChange parts room r
room_can_change parts (Book s) r room can is = same_rebooking (RoomCanChange parts room) r _ is (room_can_put parts s _ room can)
room_can_change parts (MoveHearing s) r room can is = same_rebooking (RoomCanChange parts room) r _ is (room_can_put parts s _ room can)
room_can_change parts (Cancel case motion) r room can is =
    same_rebooking (RoomCanChange parts room) r _ is (can_take_out case motion _ (parts.room room))
room_can_change parts (Fact case (Ruled motion how dated)) r room can is =
    same_rebooking (RoomCanChange parts room) r _ is (can_take_out case motion _ (parts.room room))
room_can_change parts _ r room can is = absurd cc

-- Some calendars in a row

-- the calendar of a number; where there is none, its change makes none
calendar_at : (number : ℕ) (change : ℕ → CalendarChange) (cs : List (List Booking)) (i : ℕ) → (length cs ≤ i → calendar_after (change (number + i)) [] ≡ []) → get_or (calendars_after number change cs) i [] ≡ calendar_after (change (number + i)) (get_or cs i [])
calendar_at number change [] i past = sym (past (omega arith))
calendar_at number change (c ∷ cs) zero past = ap (λ (n : ℕ). calendar_after (change n) c) (omega arith)
calendar_at number change (c ∷ cs) (suc i) past =
    let next : (number + 1) + i ≡ number + suc i = omega arith in
    calendar_at (number + 1) change cs i (λ beyond. ap (λ (n : ℕ). calendar_after (change n) []) next ∙ past (omega arith))
    ∙ ap (λ (n : ℕ). calendar_after (change n) (get_or cs i [])) next

pub calendar_of : (change : ℕ → CalendarChange) (cs : List (List Booking)) (i : ℕ) → (length cs ≤ i → calendar_after (change i) [] ≡ []) → get_or (calendars_after 0 change cs) i [] ≡ calendar_after (change i) (get_or cs i [])
calendar_of change cs i past =
    let first : 0 + i ≡ i = omega arith in
    calendar_at 0 change cs i (λ beyond. ap (λ (n : ℕ). calendar_after (change n) []) first ∙ past beyond)
    ∙ ap (λ (n : ℕ). calendar_after (change n) (get_or cs i [])) first

-- where each can be changed, all can
can_change_from : (number : ℕ) (change : ℕ → CalendarChange) (cs : List (List Booking)) → ((i : ℕ) → CanChange (change (number + i)) (get_or cs i [])) → CanChangeAll number change cs
can_change_from number change [] can = tt
can_change_from number change (c ∷ cs) can =
    (subst (λ (n : ℕ). CanChange (change n) c) (omega arith) (can 0), can_change_from (number + 1) change cs (λ i. subst (λ (n : ℕ). CanChange (change n) (get_or cs i [])) (omega arith) (can (suc i))))

pub can_change_all : (change : ℕ → CalendarChange) (cs : List (List Booking)) → ((i : ℕ) → CanChange (change i) (get_or cs i [])) → CanChangeAll 0 change cs
can_change_all change cs can = can_change_from 0 change cs (λ i. subst (λ (n : ℕ). CanChange (change n) (get_or cs i [])) (omega arith) (can i))

-- nothing is taken out of no bookings
pub nothing_to_take : (case motion : ℕ) (stands belongs : Bool) (b : Booking) → belongs ≡ false → calendar_after (change_to case motion stands (if belongs then Some b else None)) [] ≡ []
nothing_to_take case motion stands true b h = absurd cc
nothing_to_take case motion true false b h = refl
nothing_to_take case motion false false b h = refl

pub nothing_taken : (case motion : ℕ) (stands : Bool) → calendar_after (change_to case motion stands None) [] ≡ []
nothing_taken case motion true = refl
nothing_taken case motion false = refl
