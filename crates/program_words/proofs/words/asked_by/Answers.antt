-- The kinds of the parse's faults go over to those of the answer.
use Rattle.std.proofs.Common.{◌≡◌, ◌∙◌, [], List, Option, ap, subst}
use Rattle.std.specs.Prelude.{IfOk}
use Rattle.clap.specs.Faults.{fault_of}
use Rattle.clap.specs.Kinds.{or_else}
use Rattle.clap.specs.Takes.{takes}
use Rattle.clap.specs.Values.{kind_of}
use Rattle.clap.specs.Walk.{texts}
use Rattle.clap.specs.Words.{Row, Text, app_of, is_simple, subcommand_of, subcommand_rows_of}
use Rattle.std.proofs.lemmas.Bool.{and_parts}
use Rattle.clap.proofs.FaultLemmas.{first_fails}
use Rattle.program_main.proofs.OptionsLemmas.CallerLemmas.{fault_among, only_memory}
use Rattle.program_words.specs.Asked.{IsMet, faults_met}
use Rattle.program_words.proofs.FaultLemmas.{none_in, only_memory_left}
use Rattle.program_words.proofs.words.asked_by.Goals as goal

pub returns-in-Ok-clause-asked : goal.returns-in-Ok-clause-asked
returns-in-Ok-clause-asked c simple =
    let found = (c.in-Ok.ensures.matches simple).1 in
    subst (λ (rows : Option (Text × List Row)). IfOk c.task_met.result (IsMet c.args.of_court c.args.clock_time rows)) found c.task_met.ensures.task

pub returns-in-Ok-clause-faults : goal.returns-in-Ok-clause-faults
returns-in-Ok-clause-faults c free =
    let line = app_of c.args.command in
    let words = texts c.args.words.now in
    let none : fault_of line words ≡ [] = c.in-Ok.ensures.kinds free in
    let found : subcommand_rows_of c.in-Ok.matches ≡ subcommand_of line words = (c.in-Ok.ensures.matches (and_parts (is_simple line) _ free).0).1 in
    rw none (rw found at c.task_met.ensures.faults)

pub returns-in-Ok-clause-taken : goal.returns-in-Ok-clause-taken
returns-in-Ok-clause-taken c taken =
    let line = app_of c.args.command in
    let words = texts c.args.words.now in
    let parts = and_parts (takes line words) _ taken in
    let found : subcommand_rows_of c.in-Ok.matches ≡ subcommand_of line words = (c.in-Ok.ensures.matches (and_parts (is_simple line) _ parts.0).0).1 in
    let none = ap (faults_met c.args.of_court) found ∙ none_in (faults_met c.args.of_court (subcommand_of line words)) parts.1 in
    only_memory_left (faults_met c.args.of_court (subcommand_rows_of c.in-Ok.matches)) c.task_met.result none c.task_met.ensures.faults

pub returns-in-Err-clause-faults : goal.returns-in-Err-clause-faults
returns-in-Err-clause-faults c free =
    let line = app_of c.args.command in
    let words = texts c.args.words.now in
    let kinds = fault_of line words in
    let next = faults_met c.args.of_court (subcommand_of line words) in
    fault_among (kind_of c.in-Err.error) (or_else kinds next) c.fault_from.result (first_fails kinds next (kind_of c.in-Err.error) (c.in-Err.ensures.kinds free)) c.fault_from.ensures

pub returns-in-Err-clause-taken : goal.returns-in-Err-clause-taken
returns-in-Err-clause-taken c taken =
    let line = app_of c.args.command in
    let words = texts c.args.words.now in
    let memory = c.in-Err.ensures.passes (and_parts (takes line words) _ taken).0 in
    only_memory (kind_of c.in-Err.error) c.fault_from.result memory c.fault_from.ensures
