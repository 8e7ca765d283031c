use Rattle.std.proofs.Common.{◌≡◌, ◌++◌, map, refl, subst, sym, true≢false}
use Rattle.std.specs.Char.{to_ascii_uppercase}
use Rattle.std.specs.Str.{IsAscii}
use Rattle.std.proofs.lemmas.Str.{IsUtf8-from_ascii}
use Rattle.case_numbers.proofs.name.named.Goals as goal

pub returns-in-Err : goal.returns-in-Err
returns-in-Err c =
    let whole : c.args.key.items ++ map to_ascii_uppercase c.args.initials.now ≡ c.extend_from_slice.new.self.items = rw (c.in_ok-extend_from_slice.ensures.items, c.in_ok-shown.ensures.items, c.as_slice.ensures.value, c.as_slice-2.ensures.value, c.in_ok-to_ascii_uppercase.ensures.ok) refl in
    absurd (true≢false (sym (c.in-Err.ensures.succeeds (IsUtf8-from_ascii c.extend_from_slice.new.self.items (subst IsAscii whole c.requires)))))
