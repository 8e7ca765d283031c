-- The day that is noted for each motion, after one is noted or forgotten.
use Rattle.std.proofs.Common.{◌≡◌, ℕ, ◌%◌, ◌<◌, ℤ, true, false, not, Option, Some, None, option_map, List, [], ◌∷◌, ◌++◌, length, get_or, set, replicate, sym, ap, ◌∙◌, subst, arith, inl, inr, IfOk, Result, Ok, Err}
use Rattle.std.specs.List.{All, filter, find}
use Rattle.std.proofs.lemmas.Bool.{cases_Bool, cases_eq, not-true, not_from_false}
use Rattle.std.proofs.lemmas.List.{append-nil, get_or_default, get_or-set_same, get_or-set_other, get_or-replicate}
use Rattle.std.proofs.lemmas.List.Elements.{filter_passes}
use Rattle.hearing_slots.specs.declared.booking.Booking.{Booking}
use Rattle.hearing_slots.specs.declared.day_notes.NotedDay.{NotedDay}
use Rattle.hearing_slots.specs.Calendar.{IsCalendar, with_booking, without_motion}
use Rattle.hearing_slots.specs.Inside.DayNotes.{NotesDays, NotesOneDay, NotesOneDayOf, booked_day, is_noted, noted_day, noted_in}
use Rattle.hearing_slots.proofs.Filters.{find-filter}
use Rattle.hearing_slots.proofs.Finds.{find_absent, find_here, find_other}
use Rattle.hearing_slots.proofs.MotionLemmas.{noted_again, with_booking-finds, with_booking-finds_other, without_motion-finds, without_motion-finds_other}

own_note : (n : NotedDay) → is_noted n.case n.motion n ≡ true
own_note n = grind arith

other_note : (n : NotedDay) (case motion c m : ℕ) → is_noted case motion n ≡ true → ((c ≡ case) × (m ≡ motion) → ⊥) → is_noted c m n ≡ false
other_note n case motion c m h other = elim (cases_Bool (is_noted c m n)) [
  | inl same ↦
      let one : c ≡ case = grind arith in
      let two : m ≡ motion = grind arith in
      absurd (other (one, two))
  | inr differs ↦ differs
]

abbrev pub forgotten : (case motion : ℕ) → List NotedDay → List NotedDay
forgotten case motion notes = filter (λ (n : NotedDay). not (is_noted case motion n)) notes

none_left : (case motion : ℕ) (notes : List NotedDay) → All (λ n. is_noted case motion n ≡ false) (forgotten case motion notes)
none_left case motion notes k d within = not-true _ (filter_passes (λ (n : NotedDay). not (is_noted case motion n)) notes k d within)

others_stay : (case motion : ℕ) (notes : List NotedDay) (c m : ℕ) → ((c ≡ case) × (m ≡ motion) → ⊥) → find (is_noted c m) (forgotten case motion notes) ≡ find (is_noted c m) notes
others_stay case motion notes c m other =
    find-filter (is_noted c m) (λ (n : NotedDay). not (is_noted case motion n)) (λ n same. not_from_false _ (other_note n c m case motion same (λ h. other (sym h.0, sym h.1)))) notes

-- the note of a motion is left out
pub note_out : (case motion : ℕ) (notes : List NotedDay) → NotesOneDay notes (forgotten case motion notes) case motion None
note_out case motion notes = record {
  this_motion = ap (option_map (λ (n : NotedDay). n.day)) (find_absent (is_noted case motion) (forgotten case motion notes) (none_left case motion notes));
  other_motions = λ c m other. ap (option_map (λ (n : NotedDay). n.day)) (others_stay case motion notes c m other);
}

-- and a new one is added
pub note_in : (n : NotedDay) (notes : List NotedDay) → NotesOneDay notes (forgotten n.case n.motion notes ++ n ∷ []) n.case n.motion (Some n.day)
note_in n notes =
    let left = forgotten n.case n.motion notes in
    record {
      this_motion = ap (option_map (λ (x : NotedDay). x.day)) (find_here (is_noted n.case n.motion) left n [] (none_left n.case n.motion notes) (own_note n));
      other_motions = λ c m other. ap (option_map (λ (x : NotedDay). x.day))
          (find_other (is_noted c m) left n [] (other_note n n.case n.motion c m (own_note n) other)
          ∙ ap (find (is_noted c m)) (append-nil left)
          ∙ others_stay n.case n.motion notes c m other);
    }

-- the same of the shard in which the notes of a case are
pub shard_noted : (shards : List (List NotedDay)) (new e : List NotedDay) (case motion : ℕ) (day : Option ℤ) → length shards ≡ 16 → NotesOneDay (get_or shards (case % 16) e) new case motion day → NotesOneDayOf shards (set shards (case % 16) new) case motion day
shard_noted shards new e case motion day long change =
    let within : case % 16 < length shards = omega arith in
    record {
      this_motion = ap (noted_in case motion) (get_or-set_same shards (case % 16) new [] within) ∙ change.this_motion;
      other_motions = λ c m other. elim (cases_eq (c % 16) (case % 16)) [
        | inl same ↦
            rw same (ap (noted_in c m) (get_or-set_same shards (case % 16) new [] within)
            ∙ change.other_motions c m other
            ∙ ap (noted_in c m) (get_or_default shards (case % 16) e [] within))
        | inr apart ↦ ap (noted_in c m) (get_or-set_other shards (case % 16) (c % 16) new [] apart)
      ];
    }

-- no bookings have no notes
pub no_days : NotesDays [] (replicate 16 [])
no_days = record { exact = λ case motion. ap (noted_in case motion) (get_or-replicate 16 (case % 16) [] [] (omega arith)) }

-- the notes are those of the bookings again, after one is put in or taken out
pub days_with : (b : Booking) (bookings : List Booking) (notes changed : List (List NotedDay)) → IsCalendar bookings → NotesDays bookings notes → NotesOneDayOf notes changed b.case b.motion (Some b.day) → NotesDays (with_booking b bookings) changed
days_with b bookings notes changed calendar right change = record {
  exact = noted_again (λ c m. noted_day c m notes) (λ c m. noted_day c m changed) (λ c m. booked_day c m bookings) (λ c m. booked_day c m (with_booking b bookings)) b.case b.motion (Some b.day) right.exact change.this_motion change.other_motions
      (ap (option_map (λ (x : Booking). x.day)) (with_booking-finds b bookings))
      (λ c m other. ap (option_map (λ (x : Booking). x.day)) (with_booking-finds_other b bookings c m calendar other));
}

pub days_without : (case motion : ℕ) (bookings : List Booking) (notes changed : List (List NotedDay)) → NotesDays bookings notes → NotesOneDayOf notes changed case motion None → NotesDays (without_motion case motion bookings) changed
days_without case motion bookings notes changed right change = record {
  exact = noted_again (λ c m. noted_day c m notes) (λ c m. noted_day c m changed) (λ c m. booked_day c m bookings) (λ c m. booked_day c m (without_motion case motion bookings)) case motion None right.exact change.this_motion change.other_motions
      (ap (option_map (λ (x : Booking). x.day)) (without_motion-finds case motion bookings))
      (λ c m other. ap (option_map (λ (x : Booking). x.day)) (without_motion-finds_other case motion bookings c m other));
}

-- the same of what a call hands out
pub made : {E : Type 0} (r : Result (List NotedDay) E) (old new : List NotedDay) (case motion : ℕ) (day : Option ℤ) → IfOk r (λ shard. shard ≡ new) → NotesOneDay old new case motion day → IfOk r (λ shard. NotesOneDay old shard case motion day)
made (Ok shard) old new case motion day same change = subst (λ (notes : List NotedDay). NotesOneDay old notes case motion day) (sym same) change
made (Err e) old new case motion day same change = tt
