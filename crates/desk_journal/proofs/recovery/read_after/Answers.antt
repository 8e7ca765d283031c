use Rattle.std.proofs.Common.{◌++◌, refl, sym, ◌∙◌, ap, subst, arith}
use Rattle.std.proofs.lemmas.Bool.{false≢true}
use Rattle.desk_journal.specs.Frames.{first_checksum, frames}
use Rattle.desk_journal.specs.Reading.{IsDamaged}
use Rattle.desk_journal.specs.Stamps.{time_after}
use Rattle.desk_journal.proofs.recovery.read_after.Goals as goal
use Rattle.desk_journal.proofs.RecoverLemmas.{damaged_behind, found_on, whole_file}
use Rattle.desk_journal.proofs.WalkLemmas.{counted_on}

pub returns-then-ends_foreign-clause-cause : goal.returns-then-ends_foreign-clause-cause
returns-then-ends_foreign-clause-cause c = λ fs ends begun.
    let walked = c.in_ok-walked.walked in
    let few = c.in_ok-walked.ensures.few (omega (arith, ends.few, ends.count)) in
    subst (IsDamaged (frames first_checksum fs ++ c.args.bytes.now)) (grind (arith, c.saturating_add.ensures, few))
    (damaged_behind (frames first_checksum fs ++ c.args.bytes.now) begun walked.count walked.last walked.rest.now
    (counted_on fs c.args.before.now ends c.args.bytes.now walked.entries.items walked.last walked.rest.now c.in_ok-walked.ensures.read.read walked.count c.in_ok-walked.ensures.count)
    c.in_ok-walked.ensures.shut (c.ends_foreign.ensures.0 c.if-ends_foreign.true))

pub returns-clause-found : goal.returns-clause-found
returns-clause-found c = λ fs ends.
    let walked = c.in_ok-walked.walked in
    found_on fs c.args.before.now ends c.args.bytes.now walked.entries.items walked.stamps.items walked.last walked.last_size walked.rest.now c.in_ok-walked.ensures.read c.in_ok-walked.ensures.shut
    _ refl c.in_ok-walked.ensures.count (c.in_ok-walked.ensures.few (omega (arith, ends.few, ends.count))) refl refl
    (c.last_time.ensures ∙ ap (time_after c.args.before.now.time) c.deref.ensures.value)

pub returns-clause-whole : goal.returns-clause-whole
returns-clause-whole c = λ fs ends begun.
    let walked = c.in_ok-walked.walked in
    whole_file (frames first_checksum fs ++ c.args.bytes.now) begun walked.count walked.last walked.rest.now
    (counted_on fs c.args.before.now ends c.args.bytes.now walked.entries.items walked.last walked.rest.now c.in_ok-walked.ensures.read.read walked.count c.in_ok-walked.ensures.count)
    c.in_ok-walked.ensures.shut (λ was. false≢true (sym c.if-ends_foreign.false ∙ c.ends_foreign.ensures.1 was))
