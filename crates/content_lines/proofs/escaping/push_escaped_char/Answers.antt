use Rattle.std.proofs.Common.{◌≡◌, [], ◌∷◌, rules, arith}
use Rattle.std.proofs.lemmas.Bool.Decides.{nat_tests}
use Rattle.content_lines.specs.Escaping.{escaped_byte}
use Rattle.content_lines.proofs.CharacterLemmas.{escaped-encode}
use Rattle.content_lines.proofs.escaping.push_escaped_char.Goals as goal

pub returns-in_default : goal.returns-in_default
returns-in_default c =
    let itself : escaped_byte c.args.c ≡ c.args.c ∷ [] = grind (arith, nat_tests) in
    rw (escaped-encode c.args.c itself) (search rules)
