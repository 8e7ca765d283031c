use Rattle.std.proofs.Common.{◌≡◌, ◌∙◌, ◌++◌, Bool, List, ℕ, Option, Some, None, ap, map, subst, sym}
use Rattle.std.specs.Prelude.{IfOk, if◌then◌else◌}
use Rattle.std.specs.Char.{to_ascii_uppercase}
use Rattle.std.specs.Str.{IsAscii}
use Rattle.case_numbers.specs.Number.{NameView, named_if, number_with, whole_number}
use Rattle.case_numbers.proofs.PlainLemmas.{few_digits}
use Rattle.case_numbers.proofs.name.whole_number.Goals as goal

pub key_of-requires : goal.key_of-requires
key_of-requires c = few_digits c.args.form.now c.args.digits.now c.args.office.now c.args.initials.now (sym c.is_whole.ensures ∙ c.if-not-is_whole.false)

pub named-requires : goal.named-requires
named-requires c = subst IsAscii (ap (λ (key : List ℕ). key ++ map to_ascii_uppercase c.args.initials.now) (sym (c.in_ok-key.ensures c.args.initials.now))) (c.requires (sym c.is_whole.ensures ∙ c.if-not-is_whole.false))

pub returns : goal.returns
returns c =
    let number = number_with c.args.form.now c.args.text.now c.args.digits.now c.args.office.now c.args.initials.now in
    let said = λ (key : List ℕ). let name : Option NameView = Some (record { key = key; shown = key ++ map to_ascii_uppercase c.args.initials.now }) in name in
    let whole : named_if (whole_number c.args.form.now c.args.text.now c.args.digits.now c.args.office.now c.args.initials.now) ≡ said c.in_ok-key.key.items =
    ap (λ (b : Bool). named_if (if b then Some number else None)) (sym c.is_whole.ensures ∙ c.if-not-is_whole.false) ∙ ap said (sym (c.in_ok-key.ensures c.args.initials.now)) in
    subst (λ (name : Option NameView). IfOk c.named.result (λ n. n ≡ name)) (sym whole) c.named.ensures
