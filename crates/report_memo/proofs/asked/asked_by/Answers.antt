-- The fault of the case comes first, and then that of the day.
use Rattle.std.proofs.Common.{◌≡◌, ◌∙◌, [], codes}
use Rattle.std.proofs.lemmas.Bool.{and_parts}
use Rattle.clap.specs.Words.{first_of, found_of, rows_of}
use Rattle.clap.proofs.WalkLemmas.{first_value-rows}
use Rattle.program_main.specs.Texts.Words.{faults_unless, is_case_taken}
use Rattle.report_memo.specs.Asked.{day_counts, faults_of_day}
use Rattle.report_memo.proofs.AskedLemmas.{first_fault}
use Rattle.report_memo.proofs.asked.asked_by.Goals as goal

pub returns-in-Err-clause-faults : goal.returns-in-Err-clause-faults
returns-in-Err-clause-faults c =
    let found = found_of c.args.given.now in
    let given = rows_of found in
    first_fault (faults_unless (is_case_taken (first_of (codes "case") given))) (faults_of_day (first_of (codes "today") given) (first_of (codes "case") given)) c.in-Err.fault
    (rw (c.get_str.ensures ∙ first_value-rows found (codes "case")) at c.in-Err.ensures.faults)

pub returns-in-Err-clause-taken : goal.returns-in-Err-clause-taken
returns-in-Err-clause-taken c taken =
    let found = found_of c.args.given.now in
    let given = rows_of found in
    let memory = rw (c.get_str.ensures ∙ first_value-rows found (codes "case")) at c.in-Err.ensures.taken in
    memory (and_parts (is_case_taken (first_of (codes "case") given)) _ taken).0

pub returns-in-Ok-day_asked-clause-asked : goal.returns-in-Ok-day_asked-clause-asked
returns-in-Ok-day_asked-clause-asked c =
    let found = found_of c.args.given.now in
    record {
      case = rw (c.get_str.ensures ∙ first_value-rows found (codes "case")) at c.in-Ok.ensures.case;
      today = rw (c.get_str-2.ensures ∙ first_value-rows found (codes "today")) at c.in-Ok-day_asked.ensures.day;
    }

pub returns-in-Ok-day_asked-clause-faults : goal.returns-in-Ok-day_asked-clause-faults
returns-in-Ok-day_asked-clause-faults c =
    let found = found_of c.args.given.now in
    let given = rows_of found in
    let none : faults_unless (is_case_taken (first_of (codes "case") given)) ≡ [] = rw (c.get_str.ensures ∙ first_value-rows found (codes "case")) at c.in-Ok.ensures.faults in
    rw none (rw (c.get_str-2.ensures ∙ first_value-rows found (codes "today"), c.get_str-3.ensures ∙ first_value-rows found (codes "case")) at c.in-Ok-day_asked.ensures.faults)

pub returns-in-Err-day_asked-clause-faults : goal.returns-in-Err-day_asked-clause-faults
returns-in-Err-day_asked-clause-faults c =
    let found = found_of c.args.given.now in
    let given = rows_of found in
    let none : faults_unless (is_case_taken (first_of (codes "case") given)) ≡ [] = rw (c.get_str.ensures ∙ first_value-rows found (codes "case")) at c.in-Ok.ensures.faults in
    rw none (rw (c.get_str-2.ensures ∙ first_value-rows found (codes "today"), c.get_str-3.ensures ∙ first_value-rows found (codes "case")) at c.in-Err-day_asked.ensures.faults)

pub returns-in-Err-day_asked-clause-taken : goal.returns-in-Err-day_asked-clause-taken
returns-in-Err-day_asked-clause-taken c taken =
    let found = found_of c.args.given.now in
    let given = rows_of found in
    let memory = rw (c.get_str-2.ensures ∙ first_value-rows found (codes "today"), c.get_str-3.ensures ∙ first_value-rows found (codes "case")) at c.in-Err-day_asked.ensures.taken in
    memory (and_parts (is_case_taken (first_of (codes "case") given)) (day_counts (first_of (codes "today") given) (first_of (codes "case") given)) taken).1
