-- A court's file says no row and no case.
use Rattle.desk_program.proofs.log_json.put_entry.Goals as goal

pub returns-in-CourtFile : goal.returns-in-CourtFile
returns-in-CourtFile c = rw c.in-CourtFile.is (c.put_court.ensures c.args.number c.args.case c.args.entry.now)
