-- The command is the one of the definition.
use Rattle.std.proofs.Common.{◌≡◌, false, true, ap, subst}
use Rattle.std.specs.Prelude.{IfErr, IfOk}
use Rattle.clap.specs.Faults.{is_simple_and_free}
use Rattle.clap.specs.Walk.{texts}
use Rattle.clap.specs.Words.{App, is_simple}
use Rattle.program_main.specs.declared.options.fault.OptionsFault.TheVariants.{OutOfMemory}
use Rattle.program_main.specs.Options.Words.{IsAnswerFor}
use Rattle.program_words.specs.Asked.{IsAskedBy, faults_by, takes_by}
use Rattle.program_words.proofs.words.docket_asked.Goals as goal

pub returns-clause-asked : goal.returns-clause-asked
returns-clause-asked c =
    let is = c.in_ok-command.ensures in
    subst (λ (line : App). IfOk c.asked_by.result (IsAskedBy line false c.args.clock_time (texts c.args.words.now))) is (c.asked_by.ensures.asked (ap is_simple is))

pub returns-clause-faults : goal.returns-clause-faults
returns-clause-faults c =
    let is = c.in_ok-command.ensures in
    subst (λ (line : App). IsAnswerFor (faults_by line false (texts c.args.words.now)) c.asked_by.result) is (c.asked_by.ensures.faults (ap is_simple_and_free is))

pub returns-clause-taken : goal.returns-clause-taken
returns-clause-taken c taken =
    let is = c.in_ok-command.ensures in
    subst (λ (line : App). takes_by line false (texts c.args.words.now) ≡ true → IfErr c.asked_by.result (λ fault. fault ≡ OutOfMemory)) is c.asked_by.ensures.taken taken
