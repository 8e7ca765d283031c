use Rattle.std.proofs.Common.{◌≡◌, ◌∙◌, ◌-◌, ℕ, List, Option, ap, drop, length, subst}
use Rattle.std.specs.Prelude.{IfOk, Vec}
use Rattle.std.specs.declared.alloc.Global.{Global}
use Rattle.std.specs.List.{flat_map}
use Rattle.desk_journal.specs.Words.{batch_of}
use Rattle.desk_program.specs.LogLast.{bytes_in, last_joined, later_said}
use Rattle.desk_program.proofs.LogLastLemmas.{last_bytes}
use Rattle.desk_program.proofs.log_last.last_log.Goals as goal

pub returns : goal.returns
returns c =
    let most = c.args.most in
    let said = λ (named : List (Option ℕ)). later_said c.args.choice.now named 1 (drop 1 (batch_of c.args.entries.now)) (drop 1 c.args.stamps.now) in
    let texts = c.in_ok-texts.texts.items in
    let these = c.in_ok-texts.ensures ∙ ap said (c.deref.ensures.value ∙ c.in_ok-named.ensures) in
    let lasts = c.last_of.ensures ∙ ap (λ (l : List (Vec ℕ Global)). drop (length l - most) l) c.deref-2.ensures.value in
    let is = ap (λ (l : List (Vec ℕ Global)). flat_map bytes_in l) lasts ∙ last_bytes most texts ∙ ap (last_joined most) these in
    subst (λ (t : List ℕ). IfOk c.joined.result (λ whole. whole.items ≡ t)) is c.joined.ensures
