use Rattle.std.proofs.Common.{◌≡◌, ◌∙◌, ◌∷◌, [], ℕ, List, ap, sym, subst, take}
use Rattle.desk_journal.specs.Words.{batch_of}
use Rattle.desk_entries.specs.Docketed.{AreHistory, IsBadFile}
use Rattle.desk_register.specs.Words.{IsHistory}
use Rattle.desk_entries.proofs.FaultyLemmas.{bad_first_of, none_are_history}
use Rattle.desk_register.proofs.CallerLemmas.{first_batch}
use Rattle.desk_entries.proofs.docketed.Docketed.checked.Goals as goal

pub returns-in-Err-clause-cause : goal.returns-in-Err-clause-cause
returns-in-Err-clause-cause c =
    bad_first_of AreHistory c.args.entries.now c.in-Some.file.now c.in-Err.fault none_are_history (sym c.in-Some.ensures.value)
    (subst (λ (f : List ℕ). IsBadFile f 1 c.in-Err.fault) c.deref.ensures.value c.in-Err.ensures.cause)

pub returns-in-Ok-take_from-clause-history : goal.returns-in-Ok-take_from-clause-history
returns-in-Ok-take_from-clause-history c =
    let first : batch_of (take 1 c.args.entries.now) ≡ c.deref.result.now ∷ [] = first_batch c.args.entries.now c.in-Some.file.now (sym c.in-Some.ensures.value) ∙ ap (λ (f : List ℕ). f ∷ []) (sym c.deref.ensures.value) in
    c.in-Ok-take_from.ensures.history (subst IsHistory (sym first) c.in-Ok.ensures.history)

pub returns-in-Err-take_from-clause-cause : goal.returns-in-Err-take_from-clause-cause
returns-in-Err-take_from-clause-cause c =
    let first : batch_of (take 1 c.args.entries.now) ≡ c.deref.result.now ∷ [] = first_batch c.args.entries.now c.in-Some.file.now (sym c.in-Some.ensures.value) ∙ ap (λ (f : List ℕ). f ∷ []) (sym c.deref.ensures.value) in
    c.in-Err-take_from.ensures.no_history (subst IsHistory (sym first) c.in-Ok.ensures.history)
