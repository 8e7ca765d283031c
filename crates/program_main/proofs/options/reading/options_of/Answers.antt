-- The getters read what the parse's matches show, and the kinds of the parse's faults go over to those of the answer.
use Rattle.std.proofs.Common.{◌∙◌, Some, ap, codes, subst, sym}
use Rattle.clap.specs.Faults.{fault_of, is_simple_and_free}
use Rattle.clap.specs.Kinds.{HasKind, Kinds}
use Rattle.clap.specs.Takes.{takes}
use Rattle.clap.specs.Values.{kind_of}
use Rattle.clap.specs.Walk.{texts}
use Rattle.program_main.specs.Options.CommandLine.{command_line}
use Rattle.program_main.specs.Options.Held.{number_held}
use Rattle.program_main.proofs.OptionsLemmas.DefaultLemmas.{clerks_default, journal_default}
use Rattle.program_main.proofs.OptionsLemmas.FaultLemmas.{fault_among, only_memory}
use Rattle.program_main.proofs.OptionsLemmas.NumberLemmas.{clerks_are, clerks_there, holds_options, journal_is, journal_there, one_number}
use Rattle.program_main.proofs.options.reading.options_of.Goals as goal

pub unwrap-clerks-requires : goal.unwrap-clerks-requires
unwrap-clerks-requires c =
    let words = texts c.args.words.now in
    let holds = holds_options c.in_ok-command.command c.in_ok-command.ensures c.in-Ok.matches words c.in-Ok.ensures.parsed c.in-Ok.ensures.matches in
    clerks_there words c.in-Ok.matches c.get_one.result holds c.get_one.ensures.value

pub unwrap-journal-requires : goal.unwrap-journal-requires
unwrap-journal-requires c =
    let words = texts c.args.words.now in
    let holds = holds_options c.in_ok-command.command c.in_ok-command.ensures c.in-Ok.matches words c.in-Ok.ensures.parsed c.in-Ok.ensures.matches in
    journal_there words c.in-Ok.matches c.get_one-in-Ok.result holds c.get_one-in-Ok.ensures.value

pub unwrap-requires : goal.unwrap-requires
unwrap-requires c =
    let words = texts c.args.words.now in
    let holds = holds_options c.in_ok-command.command c.in_ok-command.ensures c.in-Ok.matches words c.in-Ok.ensures.parsed c.in-Ok.ensures.matches in
    let clerks = clerks_are words c.in-Ok.matches c.get_one.result c.unwrap-clerks.result holds c.get_one.ensures.value c.unwrap-clerks.ensures in
    let journal = journal_is words c.in-Ok.matches c.get_one-in-Ok.result c.unwrap-journal.result holds c.get_one-in-Ok.ensures.value c.unwrap-journal.ensures in
    c.new.ensures.within.1 (clerks.0, clerks.1, journal.1)

pub returns-in-Ok-clause-held : goal.returns-in-Ok-clause-held
returns-in-Ok-clause-held c =
    let words = texts c.args.words.now in
    let holds = holds_options c.in_ok-command.command c.in_ok-command.ensures c.in-Ok.matches words c.in-Ok.ensures.parsed c.in-Ok.ensures.matches in
    let clerks = clerks_are words c.in-Ok.matches c.get_one.result c.unwrap-clerks.result holds c.get_one.ensures.value c.unwrap-clerks.ensures in
    let journal = journal_is words c.in-Ok.matches c.get_one-in-Ok.result c.unwrap-journal.result holds c.get_one-in-Ok.ensures.value c.unwrap-journal.ensures in
    let fields = rw c.unwrap.ensures at c.new.ensures.value in
    (clerks.2 ∙ ap Some (sym fields.0), journal.2 ∙ ap Some (sym fields.1))

pub returns-in-Ok-clause-defaults : goal.returns-in-Ok-clause-defaults
returns-in-Ok-clause-defaults c =
    let words = texts c.args.words.now in
    let held = returns-in-Ok-clause-held c in (
      λ none. one_number (number_held (codes "clerks") words) c.unwrap.result.clerks 1 held.0 (clerks_default words none),
      λ none. one_number (number_held (codes "journal") words) c.unwrap.result.journal 100000 held.1 (journal_default words none),
    )

pub returns-in-Ok-clause-faults : goal.returns-in-Ok-clause-faults
returns-in-Ok-clause-faults c =
    let is = c.in_ok-command.ensures in
    ap (λ a. fault_of a (texts c.args.words.now)) (sym is) ∙ c.in-Ok.ensures.kinds (ap is_simple_and_free is)

pub returns-in-Err-clause-faults : goal.returns-in-Err-clause-faults
returns-in-Err-clause-faults c =
    let is = c.in_ok-command.ensures in
    let kinds = fault_of command_line (texts c.args.words.now) in
    let any = subst (λ (k : Kinds). HasKind k c.in-Err.error) (ap (λ a. fault_of a (texts c.args.words.now)) is) (c.in-Err.ensures.kinds (ap is_simple_and_free is)) in
    fault_among (kind_of c.in-Err.error) kinds c.fault_from.result any c.fault_from.ensures

pub returns-in-Err-clause-taken : goal.returns-in-Err-clause-taken
returns-in-Err-clause-taken c = λ taken.
    let is = c.in_ok-command.ensures in
    let memory = c.in-Err.ensures.passes (ap (λ a. takes a (texts c.args.words.now)) is ∙ taken) in
    only_memory (kind_of c.in-Err.error) c.fault_from.result memory c.fault_from.ensures
