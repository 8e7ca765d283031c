-- What the subcommand for a memo may have, as `clap` reads it.
use Rattle.std.specs.Prelude.{Some, codes}
use Rattle.clap.specs.Words.{App, Rule, Shape, new_app, new_rule, with_rule, with_subcommand}
use Rattle.clap.specs.declared.builder.action.ArgAction.TheVariants.{SetTrue}
use Rattle.program_main.specs.Texts.Words.{text_rule, with_source}

-- `--html`, once at most
abbrev pub html_rule : Rule
html_rule = record (new_rule (codes "html")) { long = Some (codes "html"); action = Some SetTrue }

-- where the rows are: a docket's folder, and `--as-of ROW|DAY|TIME`, or `--input FILE`; and `--case N`, `--today DAY` and `--html`
abbrev pub memo_shape : Shape
memo_shape =
    (with_rule (with_rule (with_rule (with_rule (with_source (new_app (codes "memo"))) (text_rule (codes "as-of"))) (text_rule (codes "case"))) (text_rule (codes "today"))) html_rule).top

-- a command line with that subcommand
abbrev pub with_memo : App → App
with_memo app = with_subcommand app memo_shape
