-- Arguments that several programs take, as `clap` reads them.
use Rattle.std.specs.Prelude.{Some, true, codes}
use Rattle.clap.specs.Words.{App, Rule, Text, new_rule, with_rule}
use Rattle.clap.specs.declared.builder.action.ArgAction.TheVariants.{Set}

-- `--NAME TEXT`, once at most
abbrev pub text_rule : (name : Text) → Rule
text_rule name = record (new_rule name) { long = Some name; action = Some Set; value_names = 1 }

-- the same, once, as it has to be given
abbrev pub needed_rule : (name : Text) → Rule
needed_rule name = record (text_rule name) { required = true }

-- `FOLDER`, by its place, once at most
abbrev pub folder_rule : Rule
folder_rule = record (new_rule (codes "folder")) { action = Some Set; value_names = 1 }

-- where a docket is: its folder, or `--input FILE`
abbrev pub with_source : App → App
with_source line = with_rule (with_rule line folder_rule) (text_rule (codes "input"))
