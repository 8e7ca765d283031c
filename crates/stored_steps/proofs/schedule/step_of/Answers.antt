use Rattle.std.proofs.Common.{rules, ◌≡◌, ◌∙◌, ◌+◌, List, ℕ, [], ◌∷◌, ◌++◌, Some, append_assoc, length, refl, sym, ap, arith}
use Rattle.std.specs.Fmt.{decimal}
use Rattle.std.proofs.lemmas.Option.{slice_get_read}
use Rattle.std.proofs.lemmas.Str.Pattern.{split_parts}
use Rattle.stored_steps.proofs.schedule.step_of.Goals as goal

pub returns : goal.returns
returns c =
    let commands = c.args.commands.now in
    let place = c.in_ok-place.place in
    let clerk = c.in_ok-number_of-5.field-0 in
    let parts = split_parts 98 c.args.word.now (Some (c.in_ok-clerk.clerk, c.in_ok-clerk.number)) c.in_ok-clerk.ensures.cases (omega arith) in
    let numbered : c.in_ok-number_of-4.field-0 ≡ place + 1 = omega (arith, c.in_ok-place.ensures) in
    let lent = slice_get_read commands (length commands) place c.in_ok-get.field-0.now refl in
    let spelled : c.args.word.now ≡ decimal clerk ++ 98 ∷ decimal (place + 1) =
    parts.0 ∙ ap (λ (t : List ℕ). t ++ 98 ∷ c.in_ok-clerk.number.now) c.in_ok-number_of-5.ensures ∙ ap (λ (t : List ℕ). decimal clerk ++ 98 ∷ t) (c.in_ok-number_of-4.ensures ∙ ap decimal numbered) in
    (place, search (rules, lent, c.in_ok-get.ensures.lookup), spelled ∙ sym (append_assoc (decimal clerk) (98 ∷ []) (decimal (place + 1))))
