-- What is written of a correction where a call ends well.
use Rattle.std.proofs.Common.{◌≡◌, ℕ, List, [], Bool, false, Err, Ok, Option, OnOk, Result}
use Rattle.std.specs.Io.KnownBytes.{Appends}
use Rattle.desk_register.specs.declared.standing.Standing.{Standing}
use Rattle.desk_program.specs.declared.entry_kind.EntryKind.{EntryKind}
use Rattle.desk_program.specs.Correction.{IsListed, correction_text}
use Rattle.desk_program.specs.Leave.{asking_between}

pub listed_if_ok : {E : Type 0} (r : Result (Unit {0}) E) (now after : Standing) (entries : List (List ℕ)) (kind : EntryKind) (accept : Bool) (old new : Option (List ℕ)) → OnOk r (Appends old new (correction_text now after entries kind))
    → (accept ≡ false → OnOk r (asking_between now after entries ≡ [])) → OnOk r (IsListed now after entries kind accept old new)
listed_if_ok (Ok u) now after entries kind accept old new written without = record { written = written; without_leave = without }
listed_if_ok (Err e) now after entries kind accept old new written without = tt
