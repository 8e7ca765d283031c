use Rattle.report_program.proofs.report.text_of.Goals as goal

pub returns-in-Listed : goal.returns-in-Listed
returns-in-Listed c = rw c.in-Listed.is c.listed.ensures

pub returns-in-Json : goal.returns-in-Json
returns-in-Json c = rw c.in-Json.is c.json_text.ensures

pub returns-in-Sql : goal.returns-in-Sql
returns-in-Sql c = rw c.in-Sql.is c.sql_text.ensures
