-- A number, as the text of an option writes it.
use Rattle.std.specs.Prelude.{ℕ, Option, Some, None, if◌then◌else◌}
use Rattle.std.specs.Str.Parse.{digits_value}
use Rattle.clap.specs.Words.{Text}
use Rattle.office_texts.specs.Names.Called.{is_digits}

-- the number that one to nine decimal digits write
abbrev pub number_of : Text → Option ℕ
number_of text = if is_digits text then Some (digits_value 10 text) else None
