-- What a fault of the code says of what is read.
use Rattle.std.proofs.Common.{◌≡◌, ◌≢◌, Result, Err, refl}
use Rattle.court_file_text.specs.declared.fault.CourtFault.{CourtFault}
use Rattle.court_file_text.specs.declared.fault.CourtFault.TheVariants.{NotToml, Missing, WrongKind, BadDate, BadZone, BadHours, BadSpan, BadName, TwiceNamed, TooMany, OutOfMemory}
use Rattle.court_file_text.specs.Words.{Fails}

-- where memory didn't run out, it is the fault of what is read
pub fails_is : {A : Type 0} (e : CourtFault) (read : Result A CourtFault) → Fails e read → e ≢ OutOfMemory → read ≡ Err e
fails_is OutOfMemory read fails there = absurd (there refl)
fails_is NotToml read fails there = fails
fails_is (Missing k) read fails there = fails
fails_is (WrongKind k) read fails there = fails
fails_is (BadDate t) read fails there = fails
fails_is BadZone read fails there = fails
fails_is BadHours read fails there = fails
fails_is BadSpan read fails there = fails
fails_is (BadName t) read fails there = fails
fails_is (TwiceNamed t) read fails there = fails
fails_is (TooMany k) read fails there = fails
