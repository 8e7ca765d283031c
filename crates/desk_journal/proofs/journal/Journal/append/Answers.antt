use Rattle.std.proofs.Common.{List, ◌++◌, length, refl, sym, subst}
use Rattle.std.proofs.lemmas.Result.{on_ok_weaker}
use Rattle.desk_journal.specs.Batches.{frames_of}
use Rattle.desk_journal.specs.Frames.{stamps_of}
use Rattle.desk_journal.specs.Kept.{KeepsFrames}
use Rattle.desk_journal.specs.Stamps.{AddsStamps, StampView}
use Rattle.desk_journal.proofs.journal.Journal.append.Goals as goal
use Rattle.desk_journal.proofs.KeptLemmas.{kept_more, either_stands, looked, still_keeps}
use Rattle.desk_journal.proofs.StampLemmas.{batch_adds, none_added}

pub returns-clause-kept : goal.returns-clause-kept
returns-clause-kept g c = λ entries kept.
    let now : KeepsFrames g.D.Disk kept.fs (looked c.args.self.now c.is_unchanged.new.disk) =
    still_keeps g.D.Disk c.args.self.now c.is_unchanged.new.disk c.is_unchanged.ensures.untouched c.is_unchanged.ensures.usable kept.fs kept.kept in
    on_ok_weaker c.add.result (kept_more g.D.Disk c.add.new.self kept.fs (length kept.fs) c.args.self.now.stamp c.args.batch.now entries kept.same) (c.add.ensures.kept kept.fs now)

pub returns-clause-crash : goal.returns-clause-crash
returns-clause-crash g c = λ entries kept x left.
    either_stands x kept.fs (length kept.fs) c.args.self.now.stamp c.args.batch.now entries kept.same
    (c.add.ensures.crash kept.fs (still_keeps g.D.Disk c.args.self.now c.is_unchanged.new.disk c.is_unchanged.ensures.untouched c.is_unchanged.ensures.usable kept.fs kept.kept) x left)

pub returns-clause-changed : goal.returns-clause-changed
returns-clause-changed g c = λ entries kept changed clean. c.add.ensures.never changed

pub returns-clause-untouched : goal.returns-clause-untouched
returns-clause-untouched g c = λ changed. absurd (c.add.ensures.never changed)

pub returns-then-is_empty-clause-stamped : goal.returns-then-is_empty-clause-stamped
returns-then-is_empty-clause-stamped g c = λ stamps has. (stamps, none_added c.args.self.now.stamp.account stamps, has)

pub returns-clause-stamped : goal.returns-clause-stamped
returns-clause-stamped g c = λ stamps has.
    let (fs, kept, same) = has in
    let stamp : StampView = c.args.self.now.stamp in
    let now : KeepsFrames g.D.Disk fs (looked c.args.self.now c.is_unchanged.new.disk) =
    still_keeps g.D.Disk c.args.self.now c.is_unchanged.new.disk c.is_unchanged.ensures.untouched c.is_unchanged.ensures.usable fs kept in
    on_ok_weaker c.add.result
    (λ keeps. (
      stamps_of (fs ++ frames_of (length fs) stamp c.args.batch.now),
      subst (λ (l : List StampView). AddsStamps stamp.account l (stamps_of (fs ++ frames_of (length fs) stamp c.args.batch.now))) (sym same) (batch_adds fs (length fs) stamp c.args.batch.now c.add.ensures.is_stamp kept.time),
      (fs ++ frames_of (length fs) stamp c.args.batch.now, keeps, refl),
    ))
    (c.add.ensures.kept fs now)

pub returns-clause-begins : goal.returns-clause-begins
returns-clause-begins g c = λ fs kept x left.
    c.add.ensures.begins fs (still_keeps g.D.Disk c.args.self.now c.is_unchanged.new.disk c.is_unchanged.ensures.untouched c.is_unchanged.ensures.usable fs kept) x left
