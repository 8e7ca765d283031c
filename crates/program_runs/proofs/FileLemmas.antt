-- The court's file of an input.
use Rattle.std.proofs.Common.{◌≡◌, ℕ, List, Result, Ok, Err, ap}
use Rattle.court_file_text.specs.declared.fault.CourtFault.{CourtFault}
use Rattle.court_days.specs.Words.{CourtFile, court_in}
use Rattle.row_forms.specs.declared.fault.RowCause.{RowCause}
use Rattle.row_forms.specs.declared.row.Row.{Row}
use Rattle.row_forms.specs.Words.{rows_read}
use Rattle.program_runs.specs.declared.fault.OfficeFault.TheVariants.{Court, Row as RowFault}
use Rattle.program_runs.specs.Division.{court_part, rows_part}
use Rattle.program_runs.specs.Office.{◌>>=◌, Input, by_office, input_of, names_in}

abbrev with_rows : CourtFile → List Row → Input
with_rows file rows = record { file = file; rows = rows }

-- the court's file of an input is what its bytes say before the rows
pub read_file : (clerks : ℕ) (bytes : List ℕ) (input : Input) → input_of clerks bytes ≡ Ok input → court_in (court_part bytes) ≡ Ok input.file
unfolding input_of
read_file clerks bytes input e = by (court_in (court_part bytes)) (λ file. rows_read clerks (names_in file) (rows_part bytes)) e
  where
    of_rows : (file : CourtFile) (r : Result (List Row) (ℕ × RowCause))
        → (by_office (λ fault. RowFault fault.0 fault.1) r >>= (λ rows. Ok (with_rows file rows))) ≡ Ok input → file ≡ input.file
    of_rows file (Err fault) e = absurd (cc e)
    of_rows file (Ok rows) e =
        let same : with_rows file rows ≡ input = cc e in
        ap (λ i. i.file) same

    by : (c : Result CourtFile CourtFault) (reads : CourtFile → Result (List Row) (ℕ × RowCause))
        → (by_office Court c >>= (λ file. by_office (λ fault. RowFault fault.0 fault.1) (reads file) >>= (λ rows. Ok (with_rows file rows)))) ≡ Ok input → c ≡ Ok input.file
    by (Err fault) reads e = absurd (cc e)
    by (Ok file) reads e = ap Ok (of_rows file (reads file) e)
