-- What the command line may have, as `clap` reads it.
use Rattle.std.specs.Prelude.{Some, true, [], codes}
use Rattle.clap.specs.Words.{App, Rule, Text, new_app, new_rule, with_rule, with_subcommand}
use Rattle.clap.specs.Simple.{new_shape}
use Rattle.clap.specs.declared.builder.action.ArgAction.TheVariants.{Set, SetTrue}
use Rattle.program_main.specs.Texts.Words.{needed_rule, text_rule, with_source}
use Rattle.report_program.specs.CommandLine.{with_reports}
use Rattle.report_memo.specs.CommandLine.{with_memo}

-- `--NAME`, once at most
abbrev pub flag_rule : (name : Text) → Rule
flag_rule name = record (new_rule name) { long = Some name; action = Some SetTrue }

-- a text that is known by its place, once at most
abbrev pub option_place_rule : (name : Text) → Rule
option_place_rule name = record (new_rule name) { action = Some Set; value_names = 1 }

-- the same, once, as it has to be given
abbrev pub place_rule : (name : Text) → Rule
place_rule name = record (option_place_rule name) { required = true }

-- ---- the subcommands of a folder

-- one that takes a folder
abbrev pub folder_line : (name : Text) → App
folder_line name = with_rule (new_app name) (place_rule (codes "folder"))

-- one that takes a folder, and as of when it is read
abbrev pub kept_line : (name : Text) → App
kept_line name = with_rule (folder_line name) (text_rule (codes "as-of"))

-- how long to wait for others
abbrev pub with_wait : App → App
with_wait line = with_rule line (text_rule (codes "wait"))

-- how lines are written that people write
abbrev pub with_style : App → App
with_style line = with_rule (with_rule line (text_rule (codes "dates"))) (flag_rule (codes "json"))

-- one that takes a folder and lines, and whose they are
abbrev pub lines_line : (name : Text) → App
lines_line name = with_rule (with_style (with_rule (folder_line name) (flag_rule (codes "as-written")))) (text_rule (codes "clerk"))

-- one that takes a folder and rows, which may be held back
abbrev pub rows_line : (name : Text) → App
rows_line name = with_rule (with_rule (lines_line name) (flag_rule (codes "warn"))) (text_rule (codes "today"))

abbrev pub init_line : App
init_line = with_rule (folder_line (codes "init")) (needed_rule (codes "court"))

abbrev pub enter_line : App
enter_line = with_wait (with_rule (with_rule (rows_line (codes "enter")) (flag_rule (codes "all-or-nothing"))) (flag_rule (codes "keep-refused")))

abbrev pub ask_line : App
ask_line = with_rule (lines_line (codes "ask")) (text_rule (codes "as-of"))

abbrev pub plain_line : App
plain_line = with_style (folder_line (codes "plain"))

-- a row, why it is struck or restored, whether it is though answers differ, and how long to wait
abbrev pub with_correction : App → App
with_correction line = with_wait (with_rule (with_rule (with_rule line (place_rule (codes "row"))) (needed_rule (codes "reason"))) (flag_rule (codes "accept")))

abbrev pub correction_line : (name : Text) → App
correction_line name = with_correction (folder_line name)

abbrev pub log_line : App
log_line =
    with_rule (with_rule (with_rule (with_rule (with_rule (with_rule (folder_line (codes "log")) (text_rule (codes "row"))) (text_rule (codes "case"))) (text_rule (codes "by"))) (text_rule (codes "from")))
    (text_rule (codes "to"))) (flag_rule (codes "json"))

-- where a docket is, as of when it is read, and a case
abbrev pub sheet_line : App
sheet_line = with_rule (with_rule (with_source (new_app (codes "sheet"))) (text_rule (codes "as-of"))) (option_place_rule (codes "case"))

-- a folder, and a case in it
abbrev pub case_line : App
case_line = with_rule (folder_line (codes "case")) (place_rule (codes "case"))

-- ---- the subcommands of a court's file, which come after the word `court`

abbrev pub check_line : App
check_line = with_rule (with_rule (with_rule (new_app (codes "check")) (place_rule (codes "file"))) (text_rule (codes "today"))) (flag_rule (codes "capital"))

-- the names of a court's judges and rooms, each in a file
abbrev pub with_names : App → App
with_names line = with_rule (with_rule line (text_rule (codes "judges"))) (text_rule (codes "rooms"))

-- from when to when its clerk's office is open
abbrev pub with_opening : App → App
with_opening line = with_rule (with_rule line (text_rule (codes "opens"))) (text_rule (codes "closes"))

-- its hours: these, and to when electronic filing runs
abbrev pub with_hours : App → App
with_hours line = with_rule (with_opening line) (text_rule (codes "efiling-until"))

-- the names and the hours that a court has of its own
abbrev pub with_own : App → App
with_own line = with_hours (with_names line)

abbrev pub write_line : App
write_line = with_own (with_rule (with_rule (with_rule (new_app (codes "write")) (needed_rule (codes "court"))) (needed_rule (codes "from"))) (needed_rule (codes "to")))

-- whether a file is taken though answers differ, and how long to wait for others
abbrev pub with_taking : App → App
with_taking line = with_wait (with_rule line (flag_rule (codes "accept")))

abbrev pub update_line : App
update_line = with_taking (with_rule (folder_line (codes "update")) (needed_rule (codes "to")))

abbrev pub change_line : App
change_line = with_taking (with_rule (folder_line (codes "change")) (place_rule (codes "file")))

-- ---- the whole

-- a program of that name, which the words leave out, and which takes one of its subcommands
abbrev pub bare_line : (name : Text) → App
bare_line name = record { top = record (new_shape name) { no_binary_name = true; has_version = true; subcommand_required = true }; subs = [] }

-- the subcommands by which a folder is made, and by which rows are read
abbrev pub with_rows : App → App
with_rows line =
    with_subcommand (with_subcommand (with_subcommand (with_subcommand (with_subcommand line init_line.top) enter_line.top) (rows_line (codes "try")).top) ask_line.top) plain_line.top

-- those of what a folder keeps
abbrev pub with_kept : App → App
with_kept line =
    with_subcommand (with_subcommand (with_subcommand (with_subcommand (with_subcommand (with_subcommand (with_subcommand line (correction_line (codes "strike")).top) (correction_line (codes "restore")).top)
    (kept_line (codes "struck")).top) (kept_line (codes "cases")).top) (folder_line (codes "check")).top) (kept_line (codes "rows")).top) log_line.top

-- the command line of `docket`: its subcommands, of which `court` has a command line of its own
abbrev pub command_line : App
command_line =
    with_subcommand (with_subcommand (with_subcommand (with_memo (with_reports (with_kept (with_rows (bare_line (codes "docket")))))) sheet_line.top) case_line.top) (new_app (codes "court")).top

-- the words after `court`
abbrev pub court_line : App
court_line = with_subcommand (with_subcommand (with_subcommand (with_subcommand (bare_line (codes "docket court")) check_line.top) write_line.top) update_line.top) change_line.top
