use Rattle.std.proofs.Common.{◌≡◌, ◌++◌, ◌∙◌, ℕ, List, IfSome, ap, length, string_bytes, subst, sym}
use Rattle.std.specs.Arc.{arc_value}
use Rattle.court_days.specs.Words.{CourtView}
use Rattle.docket_rows.specs.Words.{CourtSetup, setup_of, parts_of}
use Rattle.shared_docket.specs.Words.{rows_of}
use Rattle.published_docket.specs.Words.{IsShown}
use Rattle.office_texts.specs.Run.Words.{closing_text}
use Rattle.clerk_workers.specs.Words.{AreOfClerks}
use Rattle.clerk_workers.proofs.CallerLemmas.{open_long}
use Rattle.clerk_workers.specs.Shared.Lines.{HoldLines}
use Rattle.clerk_workers.specs.Shared.Merged.{shared_text}
use Rattle.clerk_workers.specs.Shared.Run.{IsSharedRun}
use Rattle.clerk_workers.specs.Shared.Text.{answer_lines}
use Rattle.clerk_workers.proofs.SharedLemmas.MergedTextLemmas.{merged_text}
use Rattle.clerk_workers.proofs.SharedLemmas.OpenedLemmas.{notes_long, notes_made, run_made}
use Rattle.clerk_workers.proofs.shared.attempt.attempt.Goals as goal

pub run_noting-requires-clause-as_many : goal.run_noting-requires-clause-as_many
run_noting-requires-clause-as_many g c κs within =
    let opened = rw c.in-Some.is at c.in_ok-office.ensures in
    c.in_ok-blank_lines.ensures.as_many ∙ sym (ap length opened.seats_are ∙ open_long c.args.journal_limit c.args.clerks)

pub closing_of-requires : goal.closing_of-requires
closing_of-requires g c =
    let P : CourtSetup → Type 0 = λ setup. IfSome c.in-Ok-close_shown.board (λ b. IsShown b.value × (b.value.parts ≡ setup) × (b.value.trail.log ≡ c.in-Ok-close_shown.journal)) in
    subst P (c.requires.setup ∙ ap setup_of (sym c.deref-2.ensures)) c.in-Ok-close_shown.ensures.board

pub returns : goal.returns
returns g c =
    let rows = c.args.rows.now in
    let journal = c.in-Ok-close_shown.journal in
    let tallies = c.in-Ok.noted.tallies.items in
    let lines = c.in-Ok.noted.notes.items in
    let named = g.L.NamesCourt.court in
    let opened = rw c.in-Some.is at c.in_ok-office.ensures in
    let made = notes_made (HoldLines named) g.L.NamesOffice.setup rows c.args.clerks c.args.journal_limit _ _ lines tallies opened c.in-Ok.ensures in
    let long = notes_long (HoldLines named) g.L.NamesOffice.setup rows c.args.clerks c.args.journal_limit _ _ lines tallies opened c.in-Ok.ensures in
    let Clerks : ℕ → Type 0 = λ n. AreOfClerks n rows in
    let written = merged_text named rows lines made.lists made.held (subst Clerks (sym long) c.requires.rows) made.as_many in
    let answers = written.answers in
    let run = run_made g.L.NamesOffice.setup c.args.clerks c.args.journal_limit _ _ rows answers tallies journal opened (record { as_many = written.as_many; worked = made.worked answers written.merged }) c.in-Ok-close_shown.ensures.closed c.in-Ok-close_shown.ensures.seats in
    let R : CourtSetup → Type 0 = λ setup. IsSharedRun setup c.args.clerks c.args.journal_limit rows answers journal in
    let closing : CourtView → List ℕ = λ court. closing_text court (parts_of (rows_of (setup_of court) journal)) in
    let last = string_bytes c.in_ok-closing.closing in
    let text = shared_text rows lines last in
    let said : text ≡ answer_lines named 1 rows answers ++ closing c.deref-2.result.now =
    ap (λ (t : List ℕ). t ++ last) written.text_is ∙ ap (λ (s : List ℕ). answer_lines named 1 rows answers ++ s) c.in_ok-closing.ensures in
    let Answers : CourtView → Type 0 = λ court. text ≡ answer_lines court 1 rows answers ++ closing c.deref-2.result.now in
    let Closing : CourtView → Type 0 = λ court. text ≡ answer_lines (arc_value c.args.court.now) 1 rows answers ++ closing court in
    record {
      answers = answers;
      journal = journal;
      run = subst R c.requires.setup run;
      text_is = subst Closing c.deref-2.ensures (subst Answers (sym c.requires.court) said);
    }
