use Rattle.std.proofs.Common.{inl, refl}
use Rattle.program_words.proofs.given.mistake.Goals as goal

pub returns-in-Ok : goal.returns-in-Ok
returns-in-Ok c kind is = (kind, inl refl, is)
