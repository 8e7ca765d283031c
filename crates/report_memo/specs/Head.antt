-- The head of a memo: the court, where its file names it; the case, with what rows call it and who has it; the day on which the memo is
-- made; and the edition of the Rules.
use Rattle.std.specs.Prelude.{ℕ, ℤ, List, [], ◌++◌, codes, option_and_then, Option, Some, None}
use Rattle.case_numbers.specs.declared.names.NamedCase.{NamedCase}
use Rattle.court_days.specs.Words.{CourtView}
use Rattle.desk_numbers.specs.Words.{TextsView}
use Rattle.row_forms.specs.declared.numbered.NumberedRow.{NumberedRow}
use Rattle.office_texts.specs.Names.Words.{number_called}
use Rattle.office_texts.specs.declared.names.called.CaseCalled.{CaseCalled}
use Rattle.report_texts.specs.Words.{whole_day}
use Rattle.report_memo.specs.AboutCase.{about_case_if_any}
use Rattle.report_memo.specs.CourtName.{court_named}

-- `Court    United States District Court for the District of Arizona`
abbrev pub court_line : Option (List ℕ) → List ℕ
court_line None = []
court_line (Some name) = codes "Court    " ++ name ++ codes "\n"

-- `Made     Thu 2025-09-18`
abbrev pub made_line : Option ℤ → List ℕ
made_line None = []
made_line (Some day) = codes "Made     " ++ whole_day day ++ codes "\n"

-- the Rules as they are read here (docs/law/RULES.md)
abbrev pub edition_line : List ℕ
edition_line = codes "Rules    Federal Rules of Civil Procedure, as amended on 1 December 2025\n"

-- these lines, and an empty one
unfoldable pub head_text : (name : Option (List ℕ)) → CourtView → List NamedCase → TextsView → List NumberedRow → (case : Option ℕ) → (made : Option ℤ) → List ℕ
head_text name court named called rows case made = court_line name ++ about_case_if_any court named called rows case ++ made_line made ++ edition_line ++ codes "\n"

-- those of the court that has this file, after these rows, of the case that is so named, if one is, and of that day, if one is known
unfoldable pub head_of : (file : List ℕ) → CourtView → List NamedCase → TextsView → List NumberedRow → (asked : Option CaseCalled) → (made : Option ℤ) → List ℕ
head_of file court named called rows asked made = head_text (court_named file) court named called rows (option_and_then (number_called named) asked) made
