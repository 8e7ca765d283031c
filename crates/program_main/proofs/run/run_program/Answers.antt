use Rattle.std.proofs.Common.{Ok, Err, ap, arith, map, string_bytes}
use Rattle.program_main.specs.declared.options.fault.OptionsFault.TheVariants.{BadWords, Help}
use Rattle.program_main.specs.Options.Words.{arguments_in}
use Rattle.program_streams.specs.Words.{has_failed, watched}
use Rattle.program_runs.proofs.CallerLemmas.{told_is_past_1}
use Rattle.program_main.specs.Program.{AnswersWords}
use Rattle.program_main.proofs.EndingLemmas.{ends_if_known}
use Rattle.program_main.proofs.HelpLemmas.{ends_with_help, if_any, not_mistaken}
use Rattle.program_main.proofs.run.run_program.Goals as goal

pub returns-in-Err-Help-clause-ending : goal.returns-in-Err-Help-clause-ending
returns-in-Err-Help-clause-ending g c =
    let answer : AnswersWords g.P.Program.faults g.P.Program.takes g.P.Program.is_chosen (arguments_in (map string_bytes c.in-Ok.all.items)) (Err (Help c.in-Err-Help.text)) = rw (c.as_slice.ensures.value, c.in-Err-Help.is, c.in-Err-Help.field-0-is) at c.report_behind.ensures in
    let given = rw c.as_str.ensures.value at c.helped.ensures.text in
    rw c.in-Ok.is (if_any _ (λ input. ends_with_help g.P.Program.faults g.P.Program.takes g.P.Program.is_chosen g.P.Report.Report.clerk_count g.P.Report.Report.is_text g.P.Report.Report.is_missing _ _ _ _ _ input c.in-Err-Help.text (has_failed c.helped.new.writer) answer given.whole given.front (λ e. (c.helped.ensures.worked e).0) (λ e. (c.helped.ensures.failed e).numbered)))

pub returns-in-Err-Help-clause-told : goal.returns-in-Err-Help-clause-told
returns-in-Err-Help-clause-told g c =
    rw c.in-Ok.is (λ is_1. absurd (not_mistaken _ (has_failed c.helped.new.writer) (λ e. (c.helped.ensures.worked e).0) (λ e. (c.helped.ensures.failed e).numbered) is_1))

pub returns-in-Err-BadWords-clause-told : goal.returns-in-Err-BadWords-clause-told
returns-in-Err-BadWords-clause-told g c =
    let answer : AnswersWords g.P.Program.faults g.P.Program.takes g.P.Program.is_chosen (arguments_in (map string_bytes c.in-Ok.all.items)) (Err (BadWords c.in-Err-BadWords.text)) = rw (c.as_slice.ensures.value, c.in-Err-BadWords.is, c.in-Err-BadWords.field-0-is) at c.report_behind.ensures in
    rw c.in-Ok.is (λ e. record { text = c.in-Err-BadWords.text; answer = answer; is_so = rw c.as_str-in-Err-BadWords.ensures.value at c.refused.ensures.line })

-- words that the command line takes are never told to be mistaken
pub returns-in-Err-BadWords-clause-taken : goal.returns-in-Err-BadWords-clause-taken
returns-in-Err-BadWords-clause-taken g c =
    let answered = rw c.as_slice.ensures.value at c.report_behind.ensures.taken in
    rw c.in-Ok.is (λ taken. absurd (cc (rw c.in-Err-BadWords.is at (answered taken))))

pub returns-clause-mistaken : goal.returns-clause-mistaken
returns-clause-mistaken g c =
    rw c.in-Ok.is (λ is_1. absurd (omega (arith, told_is_past_1 c.in-Err-run_report.fault _ _ c.ended_by-in-Err-run_report.ensures, is_1)))

pub returns-clause-told : goal.returns-clause-told
returns-clause-told g c =
    rw c.in-Ok.is (λ is_1. absurd (omega (arith, told_is_past_1 c.in-Err-run_report.fault _ _ c.ended_by-in-Err-run_report.ensures, is_1)))

pub returns-clause-ending : goal.returns-clause-ending
returns-clause-ending g c =
    let report = c.in-Ok-report_behind.report in
    let fault = c.in-Err-run_report.fault in
    let words = arguments_in (map string_bytes c.in-Ok.all.items) in
    let answer : AnswersWords g.P.Program.faults g.P.Program.takes g.P.Program.is_chosen words (Ok report) = rw (c.as_slice.ensures.value, c.in-Ok-report_behind.is) at c.report_behind.ensures in
    let run = c.in-Err-run_report.ensures.run in
    rw c.in-Ok.is (ends_if_known g.P.Program.faults g.P.Program.takes g.P.Program.is_chosen g.P.Report.Report.clerk_count g.P.Report.Report.is_text g.P.Report.Report.is_missing words report answer.faults answer.chosen _ _ _ _ fault _ run (λ other. ap (λ w. g.W.Write.contents (watched w)) (c.in-Err-run_report.ensures.nothing_written (λ e. other (cc e)))) c.ended_by-in-Err-run_report.ensures)
