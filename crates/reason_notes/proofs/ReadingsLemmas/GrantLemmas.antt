-- The first of some extensions pass a test that all pass.
use Rattle.std.proofs.Common.{◌≡◌, ◌∙◌, ℕ, Bool, true, List, take, drop, sym, ap, take-append-drop}
use Rattle.std.proofs.lemmas.Bool.{and_parts}
use Rattle.std.proofs.lemmas.List.Folds.{list_all-append}
use Rattle.std.specs.List.{list_all}
use Rattle.rule_periods.specs.declared.grant.Grant.{Grant}

pub all_take : (test : Grant → Bool) (n : ℕ) (grants : List Grant) → list_all test grants ≡ true → list_all test (take n grants) ≡ true
all_take test n grants all =
    let both = sym (list_all-append test (take n grants) (drop n grants)) ∙ ap (list_all test) (take-append-drop n grants) ∙ all in
    (and_parts (list_all test (take n grants)) (list_all test (drop n grants)) both).0
