-- Why a session ends before its input does.
use Rattle.std.specs.Prelude.{◌≡◌, ◌≢◌, ◌≤◌, ◌<◌, ◌-◌, ◌^◌, ◌⊎◌, ◌++◌, [], ℕ, Bool, List, length, true}
use Rattle.desk_journal.specs.declared.fault.JournalFault.{JournalFault}
use Rattle.desk_journal.specs.declared.fault.JournalFault.TheVariants as journal
use Rattle.program_streams.specs.declared.watched.Watched.{Watched}
use Rattle.program_streams.specs.Words.{has_ended, has_failed, read_calls}
use Rattle.desk_session.specs.declared.fault.SessionFault.{SessionFault}
use Rattle.desk_session.specs.declared.fault.SessionFault.TheVariants.{Journal, LongLine, OutOfMemory, Read, Unfinished, Write}
use Rattle.desk_session.specs.Lines.{unfinished_from, unfinished_of}

-- a journal's fault, as a session's: want of memory has one name
abbrev pub fault_from : JournalFault → SessionFault
fault_from journal.OutOfMemory = OutOfMemory
fault_from fault = Journal fault

-- Somewhere in these bytes a line has more than 65,536 bytes, where one has begun with `begun`: the bytes up to there have so
-- many after the last end of a line.
abbrev pub HasLongLine : (begun bytes : List ℕ) → Type 0
HasLongLine begun bytes = (front : List ℕ) × (rest : List ℕ) × (bytes ≡ front ++ rest) × (65_536 < length (unfinished_from begun front))

-- why entries aren't kept, or their answers aren't written
abbrev pub IsUnpublished : (failed : Bool) → SessionFault → Type 0
IsUnpublished failed (Journal fault) = Unit {0}
IsUnpublished failed Read = ⊥
IsUnpublished failed Write = failed ≡ true
IsUnpublished failed LongLine = ⊥
IsUnpublished failed Unfinished = ⊥
IsUnpublished failed OutOfMemory = Unit {0}

-- why bytes aren't served, where a line has begun
abbrev pub StopsBytes : (failed : Bool) → (begun bytes : List ℕ) → SessionFault → Type 0
StopsBytes failed begun bytes (Journal fault) = Unit {0}
StopsBytes failed begun bytes Read = ⊥
StopsBytes failed begun bytes Write = failed ≡ true
StopsBytes failed begun bytes LongLine = HasLongLine begun bytes
StopsBytes failed begun bytes Unfinished = ⊥
StopsBytes failed begun bytes OutOfMemory = Unit {0}

-- Why a session ends early that has read these bytes. A read has failed, or the end didn't come within 2^64 - 1 reads; a write
-- has failed; a line is too long; or the input has ended, and its last line has no end.
abbrev pub EndsSession : {R W : Type 0} → (reader : Watched R) → (writer : Watched W) → (bytes : List ℕ) → SessionFault → Type 0
EndsSession reader writer bytes (Journal fault) = Unit {0}
EndsSession reader writer bytes Read = (has_failed reader ≡ true) ⊎ (2 ^ 64 - 1 ≤ read_calls reader)
EndsSession reader writer bytes Write = has_failed writer ≡ true
EndsSession reader writer bytes LongLine = HasLongLine [] bytes
EndsSession reader writer bytes Unfinished = (has_ended reader ≡ true) × (unfinished_of bytes ≢ [])
EndsSession reader writer bytes OutOfMemory = Unit {0}
