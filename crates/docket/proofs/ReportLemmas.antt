-- What is found of a docket is found of its entries.
use Rattle.std.proofs.Common.{ℕ, List, Vec}
use Rattle.std.specs.declared.alloc.Global.{Global}
use Rattle.desk_register.specs.declared.standing.Standing.{Standing}
use Rattle.desk_entries.specs.Words.{StandsAfter, cases_of, rows_standing}
use Rattle.program_runs.specs.declared.report.Finding.{Finding}
use Rattle.program_runs.specs.declared.report.Finding.TheVariants.{Missing, Text}
use Rattle.program_runs.specs.Words.{IsFinding}
use Rattle.report_program.specs.declared.asked.Asked.{Asked}
use Rattle.report_program.specs.Words.{IsCalendar, IsMissing}
use Rattle.docket.specs.Reports.{IsNoReport, IsReport, folder_labels, past_of}

pub found_of_entries : (asked : Asked) (entries : List (List ℕ)) (under : Standing) → StandsAfter entries under → (found : Finding (Vec ℕ Global))
    → IsFinding (λ t. t.items) (IsCalendar asked under.court (folder_labels under entries) (past_of under entries) (rows_standing under entries)) (IsMissing asked under.court (cases_of under entries).named (rows_standing under entries)) found
    → IsFinding (λ t. t.items) (IsReport asked entries) (IsNoReport asked entries) found
found_of_entries asked entries under stands (Text text) is = record { under = under; stands = stands; is_so = is }
found_of_entries asked entries under stands (Missing line) is = record { under = under; stands = stands; is_so = is }
