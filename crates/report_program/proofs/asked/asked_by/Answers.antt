-- Where a text writes no day, no instant, no case or no number of days, not all are taken; else each is.
use Rattle.std.proofs.Common.{◌∙◌, codes, ap, ap₂}
use Rattle.std.proofs.lemmas.Bool.{and_from}
use Rattle.clap.specs.Words.{found_of, first_of, one_of, rows_of}
use Rattle.clap.proofs.WalkLemmas.{first_value-rows, one_text-rows}
use Rattle.program_main.specs.Texts.Words.{faults_unless, is_case_taken, is_count_taken, is_day_taken, is_said_taken}
use Rattle.report_program.specs.Asked.{are_given_taken, first_said, is_instant_taken, last_said}
use Rattle.report_program.proofs.FlagLemmas.{flag_held}
use Rattle.report_program.proofs.WordLemmas.{each_taken, fault_of_one, taken_of}
use Rattle.report_program.proofs.asked.asked_by.Goals as goal

pub returns-in-Err-clause-faults : goal.returns-in-Err-clause-faults
returns-in-Err-clause-faults c =
    let found = found_of c.args.given.now in
    let given = rows_of found in
    fault_of_one (is_said_taken (first_of (codes "from") given)) (are_given_taken given) c.in-Err.fault (λ all. (each_taken given all).0) (rw (c.get_str.ensures ∙ first_value-rows found (codes "from")) at c.in-Err.ensures.faults)

pub returns-in-Err-clause-taken : goal.returns-in-Err-clause-taken
returns-in-Err-clause-taken c all =
    let found = found_of c.args.given.now in
    let memory = rw (c.get_str.ensures ∙ first_value-rows found (codes "from")) at c.in-Err.ensures.taken in
    memory (each_taken (rows_of found) all).0

pub returns-in-Err-said_option-clause-faults : goal.returns-in-Err-said_option-clause-faults
returns-in-Err-said_option-clause-faults c =
    let found = found_of c.args.given.now in
    let given = rows_of found in
    fault_of_one (is_said_taken (first_of (codes "to") given)) (are_given_taken given) c.in-Err-said_option.fault (λ all. (each_taken given all).1) (rw (c.get_str-2.ensures ∙ first_value-rows found (codes "to")) at c.in-Err-said_option.ensures.faults)

pub returns-in-Err-said_option-clause-taken : goal.returns-in-Err-said_option-clause-taken
returns-in-Err-said_option-clause-taken c all =
    let found = found_of c.args.given.now in
    let memory = rw (c.get_str-2.ensures ∙ first_value-rows found (codes "to")) at c.in-Err-said_option.ensures.taken in
    memory (each_taken (rows_of found) all).1

pub returns-in-Err-said_option-2-clause-faults : goal.returns-in-Err-said_option-2-clause-faults
returns-in-Err-said_option-2-clause-faults c =
    let found = found_of c.args.given.now in
    let given = rows_of found in
    fault_of_one (is_said_taken (first_of (codes "of") given)) (are_given_taken given) c.in-Err-said_option-2.fault (λ all. (each_taken given all).2) (rw (c.get_str-3.ensures ∙ first_value-rows found (codes "of")) at c.in-Err-said_option-2.ensures.faults)

pub returns-in-Err-said_option-2-clause-taken : goal.returns-in-Err-said_option-2-clause-taken
returns-in-Err-said_option-2-clause-taken c all =
    let found = found_of c.args.given.now in
    let memory = rw (c.get_str-3.ensures ∙ first_value-rows found (codes "of")) at c.in-Err-said_option-2.ensures.taken in
    memory (each_taken (rows_of found) all).2

pub returns-in-Err-day_option-clause-faults : goal.returns-in-Err-day_option-clause-faults
returns-in-Err-day_option-clause-faults c =
    let found = found_of c.args.given.now in
    let given = rows_of found in
    fault_of_one (is_day_taken (first_of (codes "today") given)) (are_given_taken given) c.in-Err-day_option.fault (λ all. (each_taken given all).3) (rw (c.get_str-4.ensures ∙ first_value-rows found (codes "today")) at c.in-Err-day_option.ensures.faults)

pub returns-in-Err-day_option-clause-taken : goal.returns-in-Err-day_option-clause-taken
returns-in-Err-day_option-clause-taken c all =
    let found = found_of c.args.given.now in
    let memory = rw (c.get_str-4.ensures ∙ first_value-rows found (codes "today")) at c.in-Err-day_option.ensures.taken in
    memory (each_taken (rows_of found) all).3

pub returns-in-Err-stamp_read-clause-faults : goal.returns-in-Err-stamp_read-clause-faults
returns-in-Err-stamp_read-clause-faults c =
    let found = found_of c.args.given.now in
    let given = rows_of found in
    fault_of_one (is_instant_taken (first_of (codes "stamp") given)) (are_given_taken given) c.in-Err-stamp_read.fault (λ all. (each_taken given all).4) (rw (c.get_str-5.ensures ∙ first_value-rows found (codes "stamp")) at c.in-Err-stamp_read.ensures.faults)

pub returns-in-Err-stamp_read-clause-taken : goal.returns-in-Err-stamp_read-clause-taken
returns-in-Err-stamp_read-clause-taken c all =
    let found = found_of c.args.given.now in
    let memory = rw (c.get_str-5.ensures ∙ first_value-rows found (codes "stamp")) at c.in-Err-stamp_read.ensures.taken in
    memory (each_taken (rows_of found) all).4

pub returns-in-Err-case_option-clause-faults : goal.returns-in-Err-case_option-clause-faults
returns-in-Err-case_option-clause-faults c =
    let found = found_of c.args.given.now in
    let given = rows_of found in
    fault_of_one (is_case_taken (first_of (codes "case") given)) (are_given_taken given) c.in-Err-case_option.fault (λ all. (each_taken given all).5) (rw (c.get_str-6.ensures ∙ first_value-rows found (codes "case")) at c.in-Err-case_option.ensures.faults)

pub returns-in-Err-case_option-clause-taken : goal.returns-in-Err-case_option-clause-taken
returns-in-Err-case_option-clause-taken c all =
    let found = found_of c.args.given.now in
    let memory = rw (c.get_str-6.ensures ∙ first_value-rows found (codes "case")) at c.in-Err-case_option.ensures.taken in
    memory (each_taken (rows_of found) all).5

pub returns-in-Err-days_option-clause-faults : goal.returns-in-Err-days_option-clause-faults
returns-in-Err-days_option-clause-faults c =
    let found = found_of c.args.given.now in
    let given = rows_of found in
    fault_of_one (is_count_taken (first_of (codes "days") given)) (are_given_taken given) c.in-Err-days_option.fault (λ all. (each_taken given all).6) (rw (c.get_str-7.ensures ∙ first_value-rows found (codes "days")) at c.in-Err-days_option.ensures.faults)

pub returns-in-Err-days_option-clause-taken : goal.returns-in-Err-days_option-clause-taken
returns-in-Err-days_option-clause-taken c all =
    let found = found_of c.args.given.now in
    let memory = rw (c.get_str-7.ensures ∙ first_value-rows found (codes "days")) at c.in-Err-days_option.ensures.taken in
    memory (each_taken (rows_of found) all).6

pub returns-in-Err-said_option-3-clause-faults : goal.returns-in-Err-said_option-3-clause-faults
returns-in-Err-said_option-3-clause-faults c =
    let found = found_of c.args.given.now in
    let given = rows_of found in
    fault_of_one (is_said_taken (first_of (codes "on") given)) (are_given_taken given) c.in-Err-said_option-3.fault (λ all. (each_taken given all).7) (rw (c.get_str-8.ensures ∙ first_value-rows found (codes "on")) at c.in-Err-said_option-3.ensures.faults)

pub returns-in-Err-said_option-3-clause-taken : goal.returns-in-Err-said_option-3-clause-taken
returns-in-Err-said_option-3-clause-taken c all =
    let found = found_of c.args.given.now in
    let memory = rw (c.get_str-8.ensures ∙ first_value-rows found (codes "on")) at c.in-Err-said_option-3.ensures.taken in
    memory (each_taken (rows_of found) all).7

pub returns-clause-asked : goal.returns-clause-asked
returns-clause-asked c =
    let found = found_of c.args.given.now in
    let from = rw (c.get_str.ensures ∙ first_value-rows found (codes "from")) at c.in-Ok.ensures.day in
    let to = rw (c.get_str-2.ensures ∙ first_value-rows found (codes "to")) at c.in-Ok-said_option.ensures.day in
    let last = rw (c.get_str-7.ensures ∙ first_value-rows found (codes "days")) at c.in-Ok-days_option.ensures.day in
    record {
      task = c.task_of.ensures;
      judge = c.in_ok-judge.ensures ∙ first_value-rows found (codes "judge");
      case = rw (c.get_str-6.ensures ∙ first_value-rows found (codes "case")) at c.in-Ok-case_option.ensures.case;
      from = c.first_said.ensures ∙ ap₂ first_said last from;
      to = c.last_said.ensures ∙ ap₂ last_said last to;
      of = rw (c.get_str-3.ensures ∙ first_value-rows found (codes "of")) at c.in-Ok-said_option-2.ensures.day;
      on = rw (c.get_str-8.ensures ∙ first_value-rows found (codes "on")) at c.in-Ok-said_option-3.ensures.day;
      today = rw (c.get_str-4.ensures ∙ first_value-rows found (codes "today")) at c.in-Ok-day_option.ensures.day;
      stamp = rw (c.get_str-5.ensures ∙ first_value-rows found (codes "stamp")) at c.in-Ok-stamp_read.ensures.stamp;
      lines = flag_held (one_of (codes "lines") (rows_of found)) c.get_flag.result (λ none. c.get_flag.ensures.none (one_text-rows found (codes "lines") ∙ none)) (λ some. c.get_flag.ensures.value (one_text-rows found (codes "lines") ∙ some)) (λ some. c.get_flag.ensures.other (one_text-rows found (codes "lines") ∙ some));
      overdue = flag_held (one_of (codes "overdue") (rows_of found)) c.get_flag-2.result (λ none. c.get_flag-2.ensures.none (one_text-rows found (codes "overdue") ∙ none)) (λ some. c.get_flag-2.ensures.value (one_text-rows found (codes "overdue") ∙ some)) (λ some. c.get_flag-2.ensures.other (one_text-rows found (codes "overdue") ∙ some));
      page = flag_held (one_of (codes "page") (rows_of found)) c.get_flag-3.result (λ none. c.get_flag-3.ensures.none (one_text-rows found (codes "page") ∙ none)) (λ some. c.get_flag-3.ensures.value (one_text-rows found (codes "page") ∙ some)) (λ some. c.get_flag-3.ensures.other (one_text-rows found (codes "page") ∙ some));
      csv = flag_held (one_of (codes "csv") (rows_of found)) c.get_flag-4.result (λ none. c.get_flag-4.ensures.none (one_text-rows found (codes "csv") ∙ none)) (λ some. c.get_flag-4.ensures.value (one_text-rows found (codes "csv") ∙ some)) (λ some. c.get_flag-4.ensures.other (one_text-rows found (codes "csv") ∙ some));
    }

pub returns-clause-faults : goal.returns-clause-faults
returns-clause-faults c =
    let found = found_of c.args.given.now in
    let given = rows_of found in
    let from = taken_of (is_said_taken (first_of (codes "from") given)) (rw (c.get_str.ensures ∙ first_value-rows found (codes "from")) at c.in-Ok.ensures.faults) in
    let to = taken_of (is_said_taken (first_of (codes "to") given)) (rw (c.get_str-2.ensures ∙ first_value-rows found (codes "to")) at c.in-Ok-said_option.ensures.faults) in
    let of = taken_of (is_said_taken (first_of (codes "of") given)) (rw (c.get_str-3.ensures ∙ first_value-rows found (codes "of")) at c.in-Ok-said_option-2.ensures.faults) in
    let today = taken_of (is_day_taken (first_of (codes "today") given)) (rw (c.get_str-4.ensures ∙ first_value-rows found (codes "today")) at c.in-Ok-day_option.ensures.faults) in
    let stamp = taken_of (is_instant_taken (first_of (codes "stamp") given)) (rw (c.get_str-5.ensures ∙ first_value-rows found (codes "stamp")) at c.in-Ok-stamp_read.ensures.faults) in
    let case = taken_of (is_case_taken (first_of (codes "case") given)) (rw (c.get_str-6.ensures ∙ first_value-rows found (codes "case")) at c.in-Ok-case_option.ensures.faults) in
    let days = taken_of (is_count_taken (first_of (codes "days") given)) (rw (c.get_str-7.ensures ∙ first_value-rows found (codes "days")) at c.in-Ok-days_option.ensures.faults) in
    let on = taken_of (is_said_taken (first_of (codes "on") given)) (rw (c.get_str-8.ensures ∙ first_value-rows found (codes "on")) at c.in-Ok-said_option-3.ensures.faults) in
    ap faults_unless (and_from (is_said_taken (first_of (codes "from") given)) _ from (and_from (is_said_taken (first_of (codes "to") given)) _ to (and_from (is_said_taken (first_of (codes "of") given)) _ of (and_from (is_day_taken (first_of (codes "today") given)) _ today (and_from (is_instant_taken (first_of (codes "stamp") given)) _ stamp (and_from (is_case_taken (first_of (codes "case") given)) _ case (and_from (is_count_taken (first_of (codes "days") given)) (is_said_taken (first_of (codes "on") given)) days on)))))))
