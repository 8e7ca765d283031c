use Rattle.std.proofs.Common.{◌≡◌, ◌++◌, drop, map}
use Rattle.row_forms.specs.declared.row.Row.{Row}
use Rattle.row_forms.specs.declared.row.Work.TheVariants.{Command}
use Rattle.stored_steps.proofs.commands.commands_in.Given as goal

-- the commands so far, and what is asked for in the rows that are left, are all that is asked for
abbrev pub invariant-loop-row : goal.invariant-loop-row
invariant-loop-row l = map (λ (r : Row). r.work) l.rows ≡ map Command l.commands.items ++ map (λ (r : Row). r.work) (drop l.row-index l.rows)
