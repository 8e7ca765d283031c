-- The day of each motion's booking, found by case and motion.
use Rattle.std.specs.Prelude.{◌≡◌, ℕ, ◌%◌, ℤ, Bool, ◌&&◌, ◌==◌, Option, option_map, List, [], get_or, find}
use Rattle.hearing_slots.specs.declared.booking.Booking.{Booking}
use Rattle.hearing_slots.specs.declared.day_notes.NotedDay.{NotedDay}
use Rattle.hearing_slots.specs.Booking.{is_of}

-- the note is of the case and the motion
abbrev pub is_noted : (case motion : ℕ) → NotedDay → Bool
is_noted case motion n = n.case == case && n.motion == motion

-- the day that some notes have for the motion
abbrev pub noted_in : (case motion : ℕ) → List NotedDay → Option ℤ
noted_in case motion notes = option_map (λ (n : NotedDay). n.day) (find (is_noted case motion) notes)

-- the same of notes in 16 shards, which are by case
abbrev pub noted_day : (case motion : ℕ) → List (List NotedDay) → Option ℤ
noted_day case motion shards = noted_in case motion (get_or shards (case % 16) [])

-- the day of the motion's booking
abbrev pub booked_day : (case motion : ℕ) → List Booking → Option ℤ
booked_day case motion bookings = option_map (λ (b : Booking). b.day) (find (is_of case motion) bookings)

-- for each motion just the day of its booking is noted
pub record NotesDays (bookings : List Booking) (shards : List (List NotedDay)) : Type 0 where
  pub exact : (case motion : ℕ) → noted_day case motion shards ≡ booked_day case motion bookings

-- new has this day for the motion, or none, and for every other motion what old has
pub record NotesOneDay (old new : List NotedDay) (case motion : ℕ) (day : Option ℤ) : Type 0 where
  pub this_motion : noted_in case motion new ≡ day
  pub other_motions : (c m : ℕ) → ((c ≡ case) × (m ≡ motion) → ⊥) → noted_in c m new ≡ noted_in c m old

-- the same of shards
pub record NotesOneDayOf (old new : List (List NotedDay)) (case motion : ℕ) (day : Option ℤ) : Type 0 where
  pub this_motion : noted_day case motion new ≡ day
  pub other_motions : (c m : ℕ) → ((c ≡ case) × (m ≡ motion) → ⊥) → noted_day c m new ≡ noted_day c m old
