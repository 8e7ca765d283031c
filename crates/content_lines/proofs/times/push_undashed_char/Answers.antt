use Rattle.std.proofs.Common.{◌≢◌, rules}
use Rattle.content_lines.proofs.CharacterLemmas.{undashed-encode}
use Rattle.content_lines.proofs.times.push_undashed_char.Goals as goal

pub returns-in_default : goal.returns-in_default
returns-in_default c =
    let other : c.args.c ≢ 45 = search rules in
    rw (undashed-encode c.args.c other) (search rules)
