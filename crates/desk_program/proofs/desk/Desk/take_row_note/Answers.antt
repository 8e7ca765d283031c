use Rattle.std.proofs.Common.{◌≡◌, ◌∙◌, ◌⊎◌, ◌++◌, ◌∷◌, [], ℕ, List, Some, ap, refl, sym, subst}
use Rattle.std.specs.Prelude.{All, IsSome}
use Rattle.std.proofs.lemmas.Result.{on_ok_weaker}
use Rattle.desk_journal.specs.Words.{StandsFor}
use Rattle.desk_numbers.specs.declared.said.Said.{Said}
use Rattle.desk_numbers.specs.Strikes.Words.{Fits, said_in}
use Rattle.desk_entries.specs.Words.{IsHistory, note_in, unsaid_by}
use Rattle.desk_entries.proofs.CallerLemmas.{history_more, note_may_follow}
use Rattle.desk_program.specs.Desk.{KeepsDocket, docketed_at, standing_at}
use Rattle.desk_program.specs.RowCorrection.{note_entry}
use Rattle.desk_program.proofs.NoteLemmas.{as_note, comes_by_row, row_said_again}
use Rattle.desk_program.proofs.desk.Desk.take_row_note.Goals as goal

pub returns-clause-kept : goal.returns-clause-kept
returns-clause-kept g c = λ entries done row keeps is says more stands short.
    let under = standing_at c.args.self.now in
    let at = keeps.docketed.stands.at in
    let entry : List ℕ = c.in_ok-entry.entry.items in
    let gave : List Said = unsaid_by under entries in
    let said_is = c.in_ok-said.ensures.said entries at in
    let entry_is : entry ≡ note_entry c.args.note gave c.args.remark.now = c.in_ok-entry.ensures ∙ ap (λ (s : List Said). note_entry c.args.note s c.args.remark.now) (c.deref.ensures.value ∙ said_is) in
    let again = row_said_again done under entries row c.args.note gave c.args.remark.now at.begun at.few keeps.docketed.standing is (subst (All Fits) said_is c.in_ok-said.ensures.fits) in
    let noted : note_in entry ≡ Some (as_note c.args.note) = ap note_in entry_is ∙ again.0 in
    let says_them : said_in entry ≡ gave = ap said_in entry_is ∙ again.2 in
    on_ok_weaker c.take_note.result
    (λ kept. (
      subst (λ e. KeepsDocket g.D.Disk (entries ++ e ∷ []) c.take_note.new.self) entry_is kept,
      λ history. subst (λ e. IsHistory (entries ++ e ∷ [])) entry_is (history_more entries entry history (note_may_follow (docketed_at c.args.self.now) entries entry (as_note c.args.note) keeps.docketed noted again.1 says_them)),
    ))
    (c.take_note.ensures.kept entries keeps stands short (subst IsSome (sym noted) refl) (comes_by_row (docketed_at c.args.self.now) c.args.standing entries entry c.args.note keeps.docketed noted again.1 says_them says more))

pub returns-clause-crash : goal.returns-clause-crash
returns-clause-crash g c = λ entries keeps x left.
    let under = standing_at c.args.self.now in
    let gave : List Said = unsaid_by under entries in
    let said_is = c.in_ok-said.ensures.said entries keeps.docketed.stands.at in
    let entry_is : c.in_ok-entry.entry.items ≡ note_entry c.args.note gave c.args.remark.now = c.in_ok-entry.ensures ∙ ap (λ (s : List Said). note_entry c.args.note s c.args.remark.now) (c.deref.ensures.value ∙ said_is) in
    subst (λ e. StandsFor x entries ⊎ StandsFor x (entries ++ e ∷ [])) entry_is (c.take_note.ensures.crash entries keeps x left)
