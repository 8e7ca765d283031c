-- Why sessions end early, led from one batch of bytes to the next.
use Rattle.std.proofs.Common.{◌≡◌, ◌∙◌, ◌+◌, ◌<◌, inl, inr, ℕ, Bool, List, [], ◌∷◌, ◌++◌, length, refl, sym, ap, subst, arith, append_assoc, append-nil}
use Rattle.std.proofs.lemmas.List.{length-append}
use Rattle.program_streams.specs.declared.watched.Watched.{Watched}
use Rattle.program_streams.specs.Words.{has_failed}
use Rattle.desk_session.specs.declared.fault.SessionFault.{SessionFault}
use Rattle.desk_session.specs.declared.fault.SessionFault.TheVariants.{Journal, LongLine, OutOfMemory, Read, Unfinished, Write}
use Rattle.desk_session.specs.Faults.{EndsSession, HasLongLine, IsUnpublished, StopsBytes}
use Rattle.desk_session.specs.Lines.{ends_line, unfinished_from, unfinished_of}
use Rattle.desk_session.proofs.LineLemmas.{line_goes_on, unfinished_from-append}
use Rattle.std.specs.Prelude.{◌⊎◌, ◌≤◌, false}

-- a line that goes on for too long
pub long_line : (begun : List ℕ) (byte : ℕ) → ends_line byte ≡ false → 65_536 ≤ length begun → HasLongLine begun (byte ∷ [])
long_line begun byte goes_on long =
    let more : length (begun ++ byte ∷ []) ≡ length begun + 1 = length-append begun (byte ∷ []) in
    let longer : 65_536 < length (begun ++ byte ∷ []) = omega (arith, more, long) in
    (byte ∷ [], [], refl, subst (λ (l : List ℕ). 65_536 < length l) (sym (line_goes_on begun byte goes_on)) longer)

-- a line that is too long among bytes that come after others
pub long_later : (begun some more rest bytes then : List ℕ) → bytes ≡ (some ++ more) ++ rest → then ≡ unfinished_from begun some → HasLongLine then more → HasLongLine begun bytes
long_later begun some more rest bytes then parts is (front, after, more_is, long) = (
  some ++ front,
  after ++ rest,
  parts ∙ ap (λ (m : List ℕ). (some ++ m) ++ rest) more_is ∙ append_assoc some (front ++ after) rest ∙ ap (λ (m : List ℕ). some ++ m) (append_assoc front after rest) ∙ sym (append_assoc some front (after ++ rest)),
  subst (λ (l : List ℕ). 65_536 < length l) (ap (λ (b : List ℕ). unfinished_from b front) is ∙ sym (unfinished_from-append begun some front)) long,
)

-- what stops bytes that come after others stops all of them
pub stops_later : (failed : Bool) (begun some more rest bytes then : List ℕ) → bytes ≡ (some ++ more) ++ rest → then ≡ unfinished_from begun some → (fault : SessionFault) → StopsBytes failed then more fault → StopsBytes failed begun bytes fault
stops_later failed begun some more rest bytes then parts is (Journal fault) why = why
stops_later failed begun some more rest bytes then parts is Read why = why
stops_later failed begun some more rest bytes then parts is Write why = why
stops_later failed begun some more rest bytes then parts is LongLine why = long_later begun some more rest bytes then parts is why
stops_later failed begun some more rest bytes then parts is Unfinished why = why
stops_later failed begun some more rest bytes then parts is OutOfMemory why = why

-- entries that aren't kept, or answers that aren't written, stop bytes
pub unpublished_stops : (failed : Bool) (begun bytes : List ℕ) (fault : SessionFault) → IsUnpublished failed fault → StopsBytes failed begun bytes fault
unpublished_stops failed begun bytes (Journal fault) why = why
unpublished_stops failed begun bytes Read why = why
unpublished_stops failed begun bytes Write why = why
unpublished_stops failed begun bytes LongLine why = absurd why
unpublished_stops failed begun bytes Unfinished why = why
unpublished_stops failed begun bytes OutOfMemory why = why

-- what stops bytes ends the session
pub stops_ends : {R W : Type 0} (reader : Watched R) (writer : Watched W) (bytes more begun : List ℕ) (fault : SessionFault) → begun ≡ unfinished_of bytes → StopsBytes (has_failed writer) begun more fault → EndsSession reader writer (bytes ++ more) fault
stops_ends reader writer bytes more begun (Journal fault) is why = why
stops_ends reader writer bytes more begun Read is why = absurd why
stops_ends reader writer bytes more begun Write is why = why
stops_ends reader writer bytes more begun LongLine is why = long_later [] bytes more [] (bytes ++ more) begun (sym (append-nil (bytes ++ more))) is why
stops_ends reader writer bytes more begun Unfinished is why = absurd why
stops_ends reader writer bytes more begun OutOfMemory is why = why

-- what stops a line that came together with others stops all of them
pub line_stops : (input line : List ℕ) (fault : SessionFault) → (65_536 < length line → HasLongLine [] input) → (fault ≡ OutOfMemory) ⊎ ((fault ≡ LongLine) × (65_536 < length line)) → StopsBytes false [] input fault
line_stops input line fault so (inl is) = subst (StopsBytes false [] input) (sym is) tt
line_stops input line fault so (inr (is, long)) = subst (StopsBytes false [] input) (sym is) (so long)
