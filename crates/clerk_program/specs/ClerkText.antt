-- The bytes of the text of a run, of one clerk or of several.
use Rattle.std.specs.Prelude.{ℕ, List}
use Rattle.clerk_program.specs.declared.clerk_text.ClerkText.{ClerkText}
use Rattle.clerk_program.specs.declared.clerk_text.ClerkText.TheVariants.{One, Several}

abbrev pub bytes_of : ClerkText → List ℕ
bytes_of (One bytes) = bytes.items
bytes_of (Several text) = text
