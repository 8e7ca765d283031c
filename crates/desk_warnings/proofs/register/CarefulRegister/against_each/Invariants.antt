use Rattle.std.proofs.Common.{◌≡◌, ℕ, List, string_bytes, take}
use Rattle.std.specs.List.{flat_map}
use Rattle.desk_register.specs.Words.{StandsAt}
use Rattle.desk_warnings.specs.Inside.Rows.{row_texts}
use Rattle.desk_warnings.specs.Rows.{against_one}
use Rattle.desk_warnings.proofs.register.CarefulRegister.against_each.Given as goal

-- what speaks against the rows so far
abbrev pub invariant-loop-row : goal.invariant-loop-row
invariant-loop-row l =
    (kept : List (List ℕ)) → StandsAt l.standing l.self.register kept → string_bytes l.text ≡ flat_map (against_one l.standing l.held_back kept l.several) (row_texts (take l.row-index l.rows))
