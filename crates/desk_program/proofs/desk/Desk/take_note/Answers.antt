use Rattle.std.proofs.Common.{◌∙◌, ◌++◌, ◌∷◌, [], ℕ, List, ap, sym, subst}
use Rattle.desk_journal.specs.Words.{IsKept, batch_of}
use Rattle.desk_register.specs.declared.register.DocketRegister.{DocketRegister}
use Rattle.desk_entries.specs.Words.{StandsAt}
use Rattle.desk_program.proofs.DeskLemmas.{one_more}
use Rattle.desk_program.proofs.desk.Desk.take_note.Goals as goal

pub returns-in-Err-clause-crash : goal.returns-in-Err-clause-crash
returns-in-Err-clause-crash g c = λ entries keeps x left.
    one_more x entries (batch_of c.deref.result.now) c.args.entry.items (ap batch_of c.deref.ensures.value ∙ c.in_ok-batch.ensures) (c.append.ensures.crash entries keeps.kept x left)

pub returns-clause-kept : goal.returns-clause-kept
returns-clause-kept g c = λ entries keeps stands short some comes.
    let entry : List ℕ = c.args.entry.items in
    record {
      kept = subst (λ (b : List (List ℕ)). IsKept g.D.Disk (entries ++ b) c.append.new.self) (ap batch_of c.deref.ensures.value ∙ c.in_ok-batch.ensures) (c.in-Ok.ensures.kept entries keeps.kept);
      docketed = comes _ c.replace.ensures.after
          (subst (λ (register : DocketRegister). StandsAt c.args.standing register (entries ++ entry ∷ [])) (sym c.replace-in-Ok.ensures.after)
          (c.pass_note.ensures c.args.standing entries entry stands short some));
    }

pub returns-clause-crash : goal.returns-clause-crash
returns-clause-crash g c = λ entries keeps x left.
    one_more x entries (batch_of c.deref.result.now) c.args.entry.items (ap batch_of c.deref.ensures.value ∙ c.in_ok-batch.ensures) (c.append.ensures.crash entries keeps.kept x left)
