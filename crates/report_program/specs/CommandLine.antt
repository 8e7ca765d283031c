-- What the subcommands for reports may have, as `clap` reads it.
use Rattle.std.specs.Prelude.{Some, [], ◌∷◌, ◌++◌, codes}
use Rattle.clap.specs.Words.{App, Rule, Shape, Text, new_app, new_rule, with_rule, with_subcommand}
use Rattle.clap.specs.declared.builder.action.ArgAction.TheVariants.{SetTrue}
use Rattle.program_main.specs.Texts.Words.{needed_rule, text_rule, with_source}

-- `--lines`, once at most
abbrev pub lines_rule : Rule
lines_rule = record (new_rule (codes "lines")) { long = Some (codes "lines"); action = Some SetTrue }

-- a subcommand that takes where the rows are: a docket's folder, and `--as-of ROW|DAY|TIME`, or `--input FILE`
abbrev pub sourced_shape : (name : Text) → Shape
sourced_shape name = (with_rule (with_source (new_app name)) (text_rule (codes "as-of"))).top

-- one that also takes the days, that of today, the judge and the case that are chosen
abbrev pub choosing_shape : (name : Text) → Shape
choosing_shape name = record (sourced_shape name) {
  rules = (sourced_shape name).rules ++ text_rule (codes "from") ∷ text_rule (codes "to") ∷ text_rule (codes "today") ∷ text_rule (codes "judge") ∷ text_rule (codes "case") ∷ [];
}

-- `--overdue`, once at most
abbrev pub overdue_rule : Rule
overdue_rule = record (new_rule (codes "overdue")) { long = Some (codes "overdue"); action = Some SetTrue }

-- the one of what is due, which also takes how many days there are from today on, and that only what is overdue is listed
abbrev pub due_shape : Shape
due_shape = record (choosing_shape (codes "due")) { rules = (choosing_shape (codes "due")).rules ++ text_rule (codes "days") ∷ overdue_rule ∷ [] }

-- the one of calendars, which also takes the instant at which one is written
abbrev pub ics_shape : Shape
ics_shape = record (choosing_shape (codes "ics")) { rules = (choosing_shape (codes "ics")).rules ++ text_rule (codes "stamp") ∷ [] }

-- the one of JSON, which also takes that answers are to be lines
abbrev pub json_shape : Shape
json_shape = record (choosing_shape (codes "json")) { rules = (choosing_shape (codes "json")).rules ++ lines_rule ∷ [] }

-- the one of a judge's week, for which the judge and a day have to be given; it takes that of today
abbrev pub week_shape : Shape
week_shape = record (sourced_shape (codes "week")) { rules = (sourced_shape (codes "week")).rules ++ needed_rule (codes "judge") ∷ needed_rule (codes "of") ∷ text_rule (codes "today") ∷ [] }

-- the one of SQL
abbrev pub sql_shape : Shape
sql_shape = sourced_shape (codes "sql")

-- `--NAME`, once at most
abbrev pub form_rule : (name : Text) → Rule
form_rule name = record (new_rule name) { long = Some name; action = Some SetTrue }

-- the one of what has been pending for long, for which a day has to be given; it takes that of today, and as what it is written
abbrev pub pending_shape : Shape
pending_shape = record (sourced_shape (codes "pending")) { rules = (sourced_shape (codes "pending")).rules ++ needed_rule (codes "on") ∷ text_rule (codes "today") ∷ form_rule (codes "page") ∷ form_rule (codes "csv") ∷ [] }

-- a command line with a subcommand for each report
abbrev pub with_reports : App → App
with_reports app =
    with_subcommand (with_subcommand (with_subcommand (with_subcommand (with_subcommand (with_subcommand (with_subcommand app due_shape) week_shape) (choosing_shape (codes "page"))) ics_shape)
    json_shape) sql_shape) pending_shape
