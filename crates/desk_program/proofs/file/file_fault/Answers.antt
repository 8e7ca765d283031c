use Rattle.std.proofs.Common.{inl, refl}
use Rattle.desk_program.proofs.file.file_fault.Goals as goal

pub returns-in-Ok-clause-named : goal.returns-in-Ok-clause-named
returns-in-Ok-clause-named c kind = inl (c.in-Ok.name, c.in-Ok.ensures.ok, refl)
