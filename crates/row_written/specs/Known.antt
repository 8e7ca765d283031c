-- Whether a row names judges and a room that the court has.
use Rattle.std.specs.Prelude.{ℕ, ◌&&◌, nat_lt, Bool, true, length, Option, Some, None}
use Rattle.std.specs.List.{list_all}
use Rattle.docket_rows.specs.declared.hearing.Setting.{Setting}
use Rattle.docket_rows.specs.declared.command.Command.TheVariants.{Book, Fact, MoveHearing}
use Rattle.docket_rows.specs.declared.fact.Fact.TheVariants.{Assigned}
use Rattle.docket_rows.specs.declared.query.Query.TheVariants.{JudgeDay}
use Rattle.row_forms.specs.declared.row.Work.{Work}
use Rattle.row_forms.specs.declared.row.Work.TheVariants.{Command, Query}
use Rattle.row_forms.specs.Words.{CourtNames}

-- the court has the judges and the room of a hearing
abbrev pub setting_known : CourtNames → Setting → Bool
setting_known names setting =
    nat_lt setting.room (length names.rooms) && list_all (λ judge. nat_lt judge (length names.judges)) setting.judges

-- the court has the judge to whom a case is referred, if it is
abbrev pub referred_known : CourtNames → Option ℕ → Bool
referred_known names None = true
referred_known names (Some judge) = nat_lt judge (length names.judges)

-- the court has all judges and the room that a row names
abbrev pub names_known : CourtNames → Work → Bool
names_known names (Command (Book setting)) = setting_known names setting
names_known names (Command (MoveHearing setting)) = setting_known names setting
names_known names (Command (Fact case (Assigned judge referred dated))) =
    nat_lt judge (length names.judges) && referred_known names referred
names_known names (Query (JudgeDay judge day)) = nat_lt judge (length names.judges)
names_known names _ = true
