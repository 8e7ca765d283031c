-- What is written of an entry's object reads back.
use Rattle.std.proofs.Common.{◌≤◌, ◌<◌, ◌^◌, ℕ, ℤ, Bool, true, false, List, Option, Some, None, arith}
use Rattle.std.specs.Prelude.{IfSome, ⊤, if◌then◌else◌}
use Rattle.std.specs.Str.{is_utf8}
use Rattle.json.specs.Json.{Json, Members, member, no_members, null, string}
use Rattle.json.specs.Tree.{HasNumbers, MembersHaveNumbers, depth, members_depth}
use Rattle.json.proofs.Printed.Decimals.{IsNumber-decimal}
use Rattle.json.proofs.Printed.Trees.{document-print}
use Rattle.desk_journal.specs.Words.{StampView}
use Rattle.desk_program.specs.declared.entry_kind.EntryKind.{EntryKind}
use Rattle.desk_program.specs.declared.entry_kind.EntryKind.TheVariants.{CourtFile, Restore, Row, Strike}
use Rattle.desk_program.specs.LogJson.{LogReadsBack, NamesFew, bytes_json, case_json, entry_members, entry_object, row_answer, row_line, time_json, time_json_on}
use Rattle.desk_program.specs.LogText.{dated_day, without_end}
use Rattle.desk_numbers.specs.Strikes.Words.{remark_in}

-- a value with no array and no object in it; a number has a number's text
abbrev Flat : Json → Type 0
Flat j = HasNumbers j × (depth j ≤ 0)

abbrev AreFlat : Members → Type 0
AreFlat no_members = ⊤
AreFlat (member k j ms) = Flat j × AreFlat ms

numbers_in : (ms : Members) → AreFlat ms → MembersHaveNumbers ms
numbers_in no_members flat = tt
numbers_in (member k j ms) flat = (flat.0.0, numbers_in ms flat.1)

none_below : (ms : Members) → AreFlat ms → members_depth ms ≤ 0
none_below no_members flat = omega arith
none_below (member k j ms) flat = let first = flat.0.1 in let rest = none_below ms flat.1 in omega arith

either_flat : (b : Bool) (x y : Json) → Flat x → Flat y → Flat (if b then x else y)
either_flat true x y h k = h
either_flat false x y h k = k

bytes_flat : (bytes : List ℕ) → Flat (bytes_json bytes)
bytes_flat bytes = either_flat (is_utf8 bytes) (string bytes) null (tt, omega arith) (tt, omega arith)

case_flat : (case : Option ℕ) → IfSome case (λ number. number < 2 ^ 64) → Flat (case_json case)
case_flat (Some number) few = (IsNumber-decimal number few, omega arith)
case_flat None few = (tt, omega arith)

time_flat_on : (day : Option ℤ) (time : ℕ) → Flat (time_json_on day time)
time_flat_on (Some day) time = (tt, omega arith)
time_flat_on None time = (tt, omega arith)

time_flat : (time : ℕ) → Flat (time_json time)
time_flat time = time_flat_on (dated_day time) time

members_flat : (kind : EntryKind) (row : ℕ) (case : Option ℕ) (entry : List ℕ) (stamp : StampView) → NamesFew kind → row < 2 ^ 64 → IfSome case (λ number. number < 2 ^ 64) → AreFlat (entry_members kind row case entry stamp)
members_flat Row row case entry stamp named few cases =
    ((tt, omega arith), ((IsNumber-decimal row few, omega arith), (time_flat stamp.time, (bytes_flat stamp.account, (case_flat case cases, (bytes_flat (row_line entry), (bytes_flat (row_answer entry), tt)))))))
members_flat CourtFile row case entry stamp named few cases = ((tt, omega arith), (time_flat stamp.time, (bytes_flat stamp.account, tt)))
members_flat (Strike of) row case entry stamp named few cases =
    ((tt, omega arith), ((IsNumber-decimal of named, omega arith), (time_flat stamp.time, (bytes_flat stamp.account, (case_flat case cases, (bytes_flat (without_end (remark_in entry)), tt))))))
members_flat (Restore of) row case entry stamp named few cases =
    ((tt, omega arith), ((IsNumber-decimal of named, omega arith), (time_flat stamp.time, (bytes_flat stamp.account, (case_flat case cases, (bytes_flat (without_end (remark_in entry)), tt))))))

pub log_reads_back : LogReadsBack
log_reads_back kind row case entry stamp named few cases =
    let flat = members_flat kind row case entry stamp named few cases in
    let members = entry_members kind row case entry stamp in
    document-print (entry_object kind row case entry stamp) (numbers_in members flat) (let within = none_below members flat in omega arith)
