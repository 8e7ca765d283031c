use Rattle.std.proofs.Common.{◌≡◌, ◌+◌, ◌∙◌, take, sym, ap, subst}
use Rattle.docket_rows.specs.Words.{Rows, AreSound, setup_of, step, rows_from}
use Rattle.docket_laws.proofs.CallerLemmas.{sound_docket}
use Rattle.docket_core.specs.Words.{StandsFor}
use Rattle.shared_docket.specs.Words.{commands_of, rows_of}
use Rattle.clerk_seats.proofs.JournalLemmas.{rows_at}
use Rattle.clerk_seats.proofs.journal.Journal.docket.Goals as goal

pub loop-entry-init : goal.loop-entry-init
unfolding rows_from
loop-entry-init c = record { setup = c.in_ok-docket.ensures.setup; rows = c.in_ok-docket.ensures.rows }

pub loop-entry-preserved : goal.loop-entry-preserved
loop-entry-preserved c =
    let setup = setup_of c.args.court.now in
    let h = c.args.self.now in
    let i = c.loop-entry.entry-index in
    let e = c.entry-item.result in
    let before : Rows = rows_of setup (take i h) in
    let same = c.loop-entry.invariant.setup in
    let sound : AreSound c.loop-entry.docket.setup before = rw same (sound_docket setup (commands_of (take i h))) in
    let stepped = c.in_ok-apply.ensures.rows before sound c.loop-entry.invariant.rows in
    let whole : c.deref-entry-items.result.now ≡ h = cc (c.deref-entry-items.ensures.value, c.self.view_is) in
    let more : rows_of setup (take (i + 1) h) ≡ (step setup before e.command).0 = rows_at setup h i e (rw whole at c.loop-entry-test.true) ∙ ap (λ x. (step setup before x.command).0) (sym (rw whole at c.entry-item.is)) in
    record {
      setup = c.apply.ensures.setup ∙ same;
      rows = subst (StandsFor c.apply.new.self) (sym more) (rw same at stepped.1);
    }
