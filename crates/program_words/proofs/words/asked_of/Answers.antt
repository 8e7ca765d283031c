-- What comes after the word `court` is read by its own command line.
use Rattle.std.proofs.Common.{◌≡◌, true, List, Option, subst}
use Rattle.std.specs.Prelude.{IfErr, IfOk}
use Rattle.clap.specs.Walk.{texts}
use Rattle.clap.specs.Words.{Text}
use Rattle.program_main.specs.declared.options.fault.OptionsFault.TheVariants.{OutOfMemory}
use Rattle.program_main.specs.Options.Words.{IsAnswerFor}
use Rattle.program_words.specs.Asked.{IsAskedAfter, are_taken_after, faults_after}
use Rattle.program_words.proofs.words.asked_of.Goals as goal

pub returns-in-Some-clause-asked : goal.returns-in-Some-clause-asked
returns-in-Some-clause-asked c =
    subst (λ (rest : Option (List Text)). IfOk c.court_asked.result (IsAskedAfter rest c.args.clock_time (texts c.args.words.now))) c.in-Some.ensures c.court_asked.ensures.asked

pub returns-in-Some-clause-faults : goal.returns-in-Some-clause-faults
returns-in-Some-clause-faults c = subst (λ (rest : Option (List Text)). IsAnswerFor (faults_after rest (texts c.args.words.now)) c.court_asked.result) c.in-Some.ensures c.court_asked.ensures.faults

pub returns-in-Some-clause-taken : goal.returns-in-Some-clause-taken
returns-in-Some-clause-taken c =
    subst (λ (rest : Option (List Text)). are_taken_after rest (texts c.args.words.now) ≡ true → IfErr c.court_asked.result (λ fault. fault ≡ OutOfMemory)) c.in-Some.ensures c.court_asked.ensures.taken

pub returns-in-None-clause-asked : goal.returns-in-None-clause-asked
returns-in-None-clause-asked c =
    subst (λ (rest : Option (List Text)). IfOk c.docket_asked.result (IsAskedAfter rest c.args.clock_time (texts c.args.words.now))) c.in-None.ensures c.docket_asked.ensures.asked

pub returns-in-None-clause-faults : goal.returns-in-None-clause-faults
returns-in-None-clause-faults c = subst (λ (rest : Option (List Text)). IsAnswerFor (faults_after rest (texts c.args.words.now)) c.docket_asked.result) c.in-None.ensures c.docket_asked.ensures.faults

pub returns-in-None-clause-taken : goal.returns-in-None-clause-taken
returns-in-None-clause-taken c =
    subst (λ (rest : Option (List Text)). are_taken_after rest (texts c.args.words.now) ≡ true → IfErr c.docket_asked.result (λ fault. fault ≡ OutOfMemory)) c.in-None.ensures c.docket_asked.ensures.taken
