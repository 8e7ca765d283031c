use Rattle.std.proofs.Common.{◌≡◌, ◌==◌, None, Some, nat_eq, ap, rules, tests}
use Rattle.std.specs.Prelude.{codes}
use Rattle.std.specs.List.{find, starts_with}
use Rattle.std.specs.Option.{option_and_then}
use Rattle.std.proofs.lemmas.Iterator.Search.{find_from_yields_List}
use Rattle.std.proofs.lemmas.Iterator.Splits.{YieldsList-from_slice_split}
use Rattle.desk_session.specs.Account.{first_number, text_lines}
use Rattle.desk_session.proofs.account.user_number.Goals as goal

pub returns-in_err-line : goal.returns-in_err-line
returns-in_err-line c =
    let none : None ≡ find (λ line. starts_with nat_eq line (codes "Uid:")) (text_lines c.args.status.now) =
    find_from_yields_List (λ line. starts_with nat_eq line (codes "Uid:")) c.find.new.self _ None c.in_err-line.ensures.ran
    (YieldsList-from_slice_split _ (λ byte. byte == 10) c.args.status.now c.split.ensures.rest c.split.ensures.done c.split.ensures.closure (λ x b q k. search (rules, tests)))
    (λ x b q k. search (rules, tests)) in
    rw c.from_residual.ensures (ap (option_and_then first_number) none)

pub returns : goal.returns
returns c =
    let some : Some c.in_ok-line.line.now ≡ find (λ line. starts_with nat_eq line (codes "Uid:")) (text_lines c.args.status.now) =
    find_from_yields_List (λ line. starts_with nat_eq line (codes "Uid:")) c.find.new.self _ (Some c.in_ok-line.line) c.in_ok-line.ensures.ran
    (YieldsList-from_slice_split _ (λ byte. byte == 10) c.args.status.now c.split.ensures.rest c.split.ensures.done c.split.ensures.closure (λ x b q k. search (rules, tests)))
    (λ x b q k. search (rules, tests)) in
    rw c.first_number.ensures (ap (option_and_then first_number) some)
