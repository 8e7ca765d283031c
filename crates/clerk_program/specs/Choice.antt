-- Which numbers the words of the command line give.
use Rattle.std.specs.Prelude.{◌≡◌, ℕ, List, Some, codes}
use Rattle.clap.specs.Words.{Text}
use Rattle.program_main.specs.Options.Words.{DefaultsHold, number_held}

-- the words give these numbers of clerks and of the journal's entries
pub record Give (words : List Text) (clerks journal : ℕ) : Type 0 where
  pub clerks_held : number_held (codes "clerks") words ≡ Some clerks
  pub journal_held : number_held (codes "journal") words ≡ Some journal
  pub defaults : DefaultsHold words clerks journal
