use Rattle.std.proofs.Common.{◌≤◌, arith, length, sym}
use Rattle.desk_journal.specs.Words.{StampView, batch_of}
use Rattle.desk_entries.proofs.CallerLemmas.{length_batch}
use Rattle.desk_program.specs.declared.as_of.Moment.TheVariants.{Second}
use Rattle.desk_program.proofs.AsOfLemmas.{kept_all, kept_here, time_of_last, times_all, times_more}
use Rattle.desk_program.proofs.as_of.kept_at_second.Goals as goal

pub loop-place-preserved : goal.loop-place-preserved
loop-place-preserved c = record {
  begun = omega arith;
  earlier = times_more (λ (stamp : StampView). stamp.time ≤ c.args.second) c.args.stamps.now c.loop-place.place c.index-stamps-place.result
      c.loop-place.invariant.begun (omega (arith, c.loop-place-test.true, c.min-place-end.ensures)) c.index-stamps-place.is
      c.loop-place.invariant.earlier (omega (arith, c.time.ensures, c.if-time-second.false));
}

pub returns-then-time-second : goal.returns-then-time-second
returns-then-time-second c =
    let stamps = c.args.stamps.now in
    let place = c.loop-place.place in
    kept_here (Second c.args.second) (batch_of c.args.entries.now) stamps place
    (omega (arith, length_batch c.args.entries.now, c.loop-place-test.true, c.min-place-end.ensures))
    c.loop-place.invariant.earlier
    (λ h. omega (
      arith,
      c.time.ensures,
      c.if-time-second.true,
      time_of_last (λ (stamp : StampView). stamp.time ≤ c.args.second) stamps place c.index-stamps-place.result c.loop-place.invariant.begun
          (omega (arith, c.loop-place-test.true, c.min-place-end.ensures)) c.index-stamps-place.is h,
    ))

pub returns : goal.returns
returns c =
    kept_all (Second c.args.second) (batch_of c.args.entries.now) c.args.stamps.now (length c.args.entries.now)
    (sym (length_batch c.args.entries.now))
    (times_all (λ (stamp : StampView). stamp.time ≤ c.args.second) c.args.stamps.now c.loop-place.place (length c.args.entries.now)
    (omega (arith, c.loop-place-test.false, c.min-place-end.ensures, c.loop-place.invariant.begun)) c.loop-place.invariant.earlier)
