-- What a field says.
use Rattle.row_fields.specs.declared.said.Said.{Said}
use Rattle.row_fields.specs.declared.said.Said.TheVariants.{Unknown, Clear, Unclear}

-- what is said in other words
abbrev pub said_map : {A B : Type 0} → (A → B) → Said A → Said B
said_map f Unknown = Unknown
said_map f (Clear x) = Clear (f x)
said_map f (Unclear x y) = Unclear (f x) (f y)
