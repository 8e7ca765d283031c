use Rattle.std.proofs.Common.{◌≡◌, ◌<◌, ◌+◌, ◌-◌, inl, inr, ℕ, List, length, take, drop, ◌∙◌, ap, subst, arith}
use Rattle.std.specs.Prelude.{IfOk}
use Rattle.desk_journal.specs.Reading.{IsWhole}
use Rattle.desk_journal.specs.Recovered.{IsFound}
use Rattle.desk_journal.proofs.follow.read_more.Goals as goal
use Rattle.desk_journal.proofs.LeftLemmas.{begins_long, begun_after, behind_there, ends_after, if_ok_both, if_ok_given, last_there, parts_there}

pub returns-in-None-clause-cause : goal.returns-in-None-clause-cause
returns-in-None-clause-cause g c = λ file fs was ends some begins clean.
    let long = begins_long file fs c.args.end.now ends begins in
    let fits = ends_after file fs c.args.end.now ends some in
    elim c.in-None.ensures.none [
      | inl short ↦ omega (arith, short, long, c.in_ok-len.ensures.len clean, ap length was.read)
      | inr none ↦ omega (arith, none, fits)
    ]

pub returns-in-None-behind_last-clause-cause : goal.returns-in-None-behind_last-clause-cause
returns-in-None-behind_last-clause-cause g c = λ file fs was ends some begins clean.
    let (at_is, fits) = c.in-Some.ensures.some in
    let long : c.in-Some.at + (c.in_ok-len.len - c.in-Some.at) ≡ length (g.D.Disk.seen c.length_of.new.disk) =
    omega (arith, at_is, fits, c.in_ok-len.ensures.len (c.read_from.ensures.clean clean), ap length c.length_of.ensures.untouched.same) in
    let bytes_are : c.deref.result.now ≡ drop c.in-Some.at file =
    c.deref.ensures.value ∙ c.in_ok-bytes-in-Some.ensures.bytes clean long ∙ ap (drop c.in-Some.at) (c.length_of.ensures.untouched.same ∙ was.read) in
    c.in-None-behind_last.ensures (ap (take 32) bytes_are ∙ last_there file fs c.args.end.now ends begins some c.in-Some.at at_is)

pub returns-clause-found : goal.returns-clause-found
returns-clause-found g c = λ file fs was ends begins.
    let (at_is, fits) = c.in-Some.ensures.some in
    let some : 0 < length fs = omega (arith, c.if-end-eq0.false, ends.count) in
    let behind : List ℕ = c.in-Some-behind_last.behind.now in
    if_ok_given c.read_after.result _ (λ r. IsFound fs file r.entries.items r.stamps.items r.end × IsWhole file) (λ clean.
    let long : c.in-Some.at + (c.in_ok-len.len - c.in-Some.at) ≡ length (g.D.Disk.seen c.length_of.new.disk) =
    omega (arith, at_is, fits, c.in_ok-len.ensures.len (c.read_from.ensures.clean clean), ap length c.length_of.ensures.untouched.same) in
    let bytes_are : c.deref.result.now ≡ drop c.in-Some.at file =
    c.deref.ensures.value ∙ c.in_ok-bytes-in-Some.ensures.bytes clean long ∙ ap (drop c.in-Some.at) (c.length_of.ensures.untouched.same ∙ was.read) in
    subst (λ (f : List ℕ). IfOk c.read_after.result (λ r. IsFound fs f r.entries.items r.stamps.items r.end × IsWhole f))
    (parts_there file fs c.args.end.now ends begins behind
    (behind_there file c.deref.result.now behind c.in-Some.at c.args.end.now.last_size c.args.end.now.place at_is bytes_are c.in-Some-behind_last.ensures.1))
    (if_ok_both c.read_after.result _ _ (c.read_after.ensures.found fs ends) (c.read_after.ensures.whole fs ends (begun_after file fs c.args.end.now ends some behind))))
