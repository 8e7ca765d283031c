use Rattle.std.proofs.Common.{◌≡◌, ◌==◌, List, ℕ, None, Some, slice_get, ap, rules, tests}
use Rattle.std.specs.List.{find}
use Rattle.std.specs.Option.{option_and_then}
use Rattle.std.proofs.lemmas.Iterator.Search.{find_from_yields_List}
use Rattle.std.proofs.lemmas.Iterator.Splits.{YieldsList-from_slice_split}
use Rattle.desk_session.specs.Account.{fields, has_number, text_lines}
use Rattle.desk_session.proofs.account.user_name.Goals as goal

pub returns-in_err-line : goal.returns-in_err-line
returns-in_err-line c =
    let none : None ≡ find (has_number c.args.number.now) (text_lines c.args.users.now) =
    find_from_yields_List (has_number c.args.number.now) c.find.new.self _ None c.in_err-line.ensures.ran
    (YieldsList-from_slice_split _ (λ byte. byte == 10) c.args.users.now c.split.ensures.rest c.split.ensures.done c.split.ensures.closure (λ x b q k. search (rules, tests)))
    (λ x b q k. search (rules, tests)) in
    rw c.from_residual.ensures (ap (option_and_then (λ (line : List ℕ). slice_get (fields line) 0)) none)

pub returns : goal.returns
returns c =
    let some : Some c.in_ok-line.line.now ≡ find (has_number c.args.number.now) (text_lines c.args.users.now) =
    find_from_yields_List (has_number c.args.number.now) c.find.new.self _ (Some c.in_ok-line.line) c.in_ok-line.ensures.ran
    (YieldsList-from_slice_split _ (λ byte. byte == 10) c.args.users.now c.split.ensures.rest c.split.ensures.done c.split.ensures.closure (λ x b q k. search (rules, tests)))
    (λ x b q k. search (rules, tests)) in
    rw c.part.ensures (ap (option_and_then (λ (line : List ℕ). slice_get (fields line) 0)) some)
