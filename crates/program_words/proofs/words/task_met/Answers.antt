-- The subcommand that was met is the one that its name means.
use Rattle.std.proofs.Common.{◌≡◌, List, Option, Some, subst, sym}
use Rattle.std.specs.Prelude.{IfOk}
use Rattle.std.specs.Box.{box_value}
use Rattle.clap.specs.Words.{Row, Text, found_of, rows_of, subcommand_rows_of}
use Rattle.clap.specs.declared.parser.matches.ArgMatches.TheViews.{out-ArgMatches, out-SubCommand}
use Rattle.program_main.specs.Options.Words.{IsAnswerFor}
use Rattle.program_words.specs.declared.subcommand.Subcommand.{Subcommand}
use Rattle.program_words.specs.Asked.{IsMet, faults_met}
use Rattle.program_words.specs.Task.{IsTask, faults_given}
use Rattle.program_words.proofs.MetLemmas.{met_pair}
use Rattle.program_words.proofs.words.task_met.Goals as goal

pub returns-in-Some-clause-task : goal.returns-in-Some-clause-task
returns-in-Some-clause-task c =
    let name = c.in-Some.name.now in
    let rows = rows_of (found_of c.in-Some.given.now) in
    let met : subcommand_rows_of c.args.matches.now ≡ Some (name, rows) =
    met_pair (out-ArgMatches c.args.matches.now).subcommand (λ b. (out-SubCommand (box_value b)).name.now) (λ b. rows_of (found_of (out-SubCommand (box_value b)).matches)) name rows c.in-Some.ensures.name c.in-Some.ensures.rows in
    let task = subst (λ (s : Subcommand). IfOk c.task_of.result (IsTask c.args.clock_time s name rows)) c.subcommand_named-subcommand.ensures c.task_of.ensures.task in
    subst (λ (met : Option (Text × List Row)). IfOk c.task_of.result (IsMet c.args.of_court c.args.clock_time met)) (sym met) task

pub returns-in-Some-clause-faults : goal.returns-in-Some-clause-faults
returns-in-Some-clause-faults c =
    let name = c.in-Some.name.now in
    let rows = rows_of (found_of c.in-Some.given.now) in
    let met : subcommand_rows_of c.args.matches.now ≡ Some (name, rows) =
    met_pair (out-ArgMatches c.args.matches.now).subcommand (λ b. (out-SubCommand (box_value b)).name.now) (λ b. rows_of (found_of (out-SubCommand (box_value b)).matches)) name rows c.in-Some.ensures.name c.in-Some.ensures.rows in
    let faults = subst (λ (s : Subcommand). IsAnswerFor (faults_given s rows) c.task_of.result) c.subcommand_named-subcommand.ensures c.task_of.ensures.faults in
    subst (λ (met : Option (Text × List Row)). IsAnswerFor (faults_met c.args.of_court met) c.task_of.result) (sym met) faults
