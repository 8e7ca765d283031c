-- When a case can be changed as a command says.
use Rattle.std.specs.Prelude.{◌≡◌, ◌<◌, ◌≤◌, ◌==◌, true, length, find, IfSome, option_map}
use Rattle.rule_periods.specs.Words.{suits, has_length, is_grant_length, grant_fits, is_in_hours}
use Rattle.docket_rows.specs.declared.command.Command.{Command}
use Rattle.docket_rows.specs.declared.command.Command.TheVariants.{Start, Extend, Motion, Book, MoveHearing, Fact}
use Rattle.docket_rows.specs.Words.{CaseRecordView, NumberedDeadline, is_kept, most_deadlines, most_motions, most_facts}

-- there is room in the case for what the command adds, and it suits the case
abbrev pub CanChangeRecord : Command → CaseRecordView → Type 0
CanChangeRecord (Start case period event second service) c =
    (suits period second service ≡ true) × (has_length period ≡ true) × (length c.deadlines < most_deadlines)
CanChangeRecord (Extend case deadline request) c =
    (is_grant_length request.grant ≡ true)
    × IfSome (option_map (λ (d : NumberedDeadline). d.row) (find (λ (d : NumberedDeadline). d.number == deadline) c.deadlines)) (λ row. grant_fits (is_in_hours row.period) request.grant ≡ true)
CanChangeRecord (Motion case served need) c = length c.motions < most_motions
CanChangeRecord (Book s) c = s.count ≤ 96
CanChangeRecord (MoveHearing s) c = s.count ≤ 96
CanChangeRecord (Fact case fact) c = is_kept fact ≡ true → length c.facts < most_facts
CanChangeRecord _ c = Unit {0}
