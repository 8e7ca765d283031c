use Rattle.std.proofs.Common.{◌∙◌, ℕ, List, refl, sym, subst}
use Rattle.std.specs.Prelude.{IsSome}
use Rattle.std.proofs.lemmas.Result.{on_ok_weaker}
use Rattle.desk_entries.specs.Words.{court_file}
use Rattle.desk_entries.proofs.CallerLemmas.{history_more, note_may_follow}
use Rattle.desk_program.specs.Desk.{docketed_at}
use Rattle.desk_program.proofs.DeskLemmas.{one_file}
use Rattle.desk_program.proofs.NoteLemmas.{comes_by_note, file_noted}
use Rattle.desk_program.proofs.desk.Desk.take_file.Goals as goal

pub returns-clause-kept : goal.returns-clause-kept
returns-clause-kept g c = λ entries keeps says same stands short.
    let entry : List ℕ = c.in_ok-entry.entry.items in
    let noted = file_noted entry c.args.file.now c.in_ok-entry.ensures.file in
    let says_them = c.in_ok-entry.ensures.says ∙ c.deref.ensures.value ∙ c.in_ok-said.ensures.said entries keeps.docketed.stands.at in
    on_ok_weaker c.take_note.result
    (λ kept. (
      entry,
      c.in_ok-entry.ensures.file,
      says_them,
      kept,
      λ history. history_more entries entry history (note_may_follow (docketed_at c.args.self.now) entries entry (court_file c.args.file.now) keeps.docketed noted (c.args.standing.court, says) says_them),
    ))
    (c.take_note.ensures.kept entries keeps stands short (subst IsSome (sym noted) refl)
    (comes_by_note (docketed_at c.args.self.now) c.args.standing entries entry (court_file c.args.file.now) keeps.docketed noted (c.args.standing.court, says) says_them says same))

pub returns-clause-crash : goal.returns-clause-crash
returns-clause-crash g c = λ entries keeps x left.
    one_file x entries c.args.file.now c.in_ok-entry.entry.items c.in_ok-entry.ensures.file (c.take_note.ensures.crash entries keeps x left)
