-- What a watched reader or writer has seen so far.
use Rattle.std.specs.Prelude.{◌+◌, ◌-◌, ◌^◌, ◌&&◌, ◌==◌, ℕ, Bool, false, min, List, Result, Ok, Err, length, nat_lt}
use Rattle.program_streams.specs.declared.watched.Watched.{Watched}

-- the reader or writer that is watched
abbrev pub watched : {T : Type 0} → Watched T → T
watched w = w.inner

-- a read or a write so far answered with an error, or a write of some bytes took none
abbrev pub has_failed : {T : Type 0} → Watched T → Bool
has_failed w = w.failed

-- a read so far, into a buffer that isn't empty, answered that there are no more bytes
abbrev pub has_ended : {T : Type 0} → Watched T → Bool
has_ended w = w.ended

-- it was called again after a call had failed
abbrev pub was_called_again : {T : Type 0} → Watched T → Bool
was_called_again w = w.called_again

-- how often it was read from so far
abbrev pub read_calls : {T : Type 0} → Watched T → ℕ
read_calls w = w.read_calls

-- how many bytes its reads gave so far
abbrev pub bytes_given : {T : Type 0} → Watched T → ℕ
bytes_given w = w.bytes_given

-- a count and some more; counts stop at 2 ^ 64 - 1
abbrev pub counted : ℕ → ℕ → ℕ
counted so_far more = min (so_far + more) (2 ^ 64 - 1)

-- the call answered that it moved no byte, though the buffer has some room or some bytes
abbrev pub moved_nothing : {E : Type 0} → Result ℕ E → List ℕ → Bool
moved_nothing (Ok n) buffer = (n == 0) && nat_lt 0 (length buffer)
moved_nothing (Err e) buffer = false

-- how many bytes a call moved
abbrev pub moved : {E : Type 0} → Result ℕ E → ℕ
moved (Ok n) = n
moved (Err e) = 0
