-- The texts of options that are taken, and the fault of one that isn't.
use Rattle.std.proofs.Common.{◌≡◌, Bool, true, false, List, [], codes, inl, inr, refl}
use Rattle.std.proofs.lemmas.Bool.{and_parts}
use Rattle.clap.specs.Words.{Row, first_of}
use Rattle.program_main.specs.declared.options.fault.OptionsFault.{OptionsFault}
use Rattle.program_main.specs.declared.options.fault.OptionsFault.TheVariants.{BadWords, Help, OutOfMemory}
use Rattle.program_main.specs.Options.Words.{IsFaultAmong}
use Rattle.program_main.specs.Texts.Words.{faults_unless, is_case_taken, is_count_taken, is_day_taken, is_said_taken}
use Rattle.report_program.specs.Asked.{are_given_taken, is_instant_taken}

false_is_true : false ≡ true → ⊥
false_is_true e = cc

-- the fault of one text is one of those of all
pub fault_of_one : (one all : Bool) (fault : OptionsFault) → (all ≡ true → one ≡ true) → IsFaultAmong (faults_unless one) fault → IsFaultAmong (faults_unless all) fault
fault_of_one one all OutOfMemory whole among = tt
fault_of_one true all (BadWords text) whole among = absurd among.1
fault_of_one true all (Help text) whole (inl none) = absurd none
fault_of_one true all (Help text) whole (inr none) = absurd none
fault_of_one false false fault whole among = among
fault_of_one false true fault whole among = absurd (false_is_true (whole refl))

-- a text that has no fault is taken
pub taken_of : (taken : Bool) → faults_unless taken ≡ [] → taken ≡ true
taken_of true none = refl
taken_of false none = cc

-- where all are taken, each is
pub each_taken : (given : List Row) → are_given_taken given ≡ true
    → (is_said_taken (first_of (codes "from") given) ≡ true) × (is_said_taken (first_of (codes "to") given) ≡ true) × (is_said_taken (first_of (codes "of") given) ≡ true)
    × (is_day_taken (first_of (codes "today") given) ≡ true) × (is_instant_taken (first_of (codes "stamp") given) ≡ true) × (is_case_taken (first_of (codes "case") given) ≡ true)
    × (is_count_taken (first_of (codes "days") given) ≡ true) × (is_said_taken (first_of (codes "on") given) ≡ true)
each_taken given all =
    let from = and_parts (is_said_taken (first_of (codes "from") given)) _ all in
    let to = and_parts (is_said_taken (first_of (codes "to") given)) _ from.1 in
    let of = and_parts (is_said_taken (first_of (codes "of") given)) _ to.1 in
    let today = and_parts (is_day_taken (first_of (codes "today") given)) _ of.1 in
    let stamp = and_parts (is_instant_taken (first_of (codes "stamp") given)) _ today.1 in
    let case = and_parts (is_case_taken (first_of (codes "case") given)) _ stamp.1 in
    let rest = and_parts (is_count_taken (first_of (codes "days") given)) (is_said_taken (first_of (codes "on") given)) case.1 in
    (from.0, to.0, of.0, today.0, stamp.0, case.0, rest.0, rest.1)
