-- What a register of rows is after entries.
use Rattle.std.specs.Prelude.{◌≡◌, ◌<◌, ◌≤◌, ◌+◌, ◌++◌, ℕ, true, List, Option, length, string_bytes}
use Rattle.case_numbers.specs.Words.{NameView, name_line}
use Rattle.docket_rows.specs.Words.{setup_of}
use Rattle.row_forms.specs.declared.row.Row.{Row}
use Rattle.office_texts.specs.Run.Words.{Holds}
use Rattle.desk_numbers.specs.Strikes.Words.{all_before}
use Rattle.desk_register.specs.declared.register.DocketRegister.{DocketRegister}
use Rattle.desk_register.specs.declared.register.Done.{Done}
use Rattle.desk_register.specs.declared.standing.Standing.{Standing}
use Rattle.desk_register.specs.Called.{called_standing, newly_called, with_newly}
use Rattle.desk_register.specs.Cases.{cases_of, opened_as, with_opened}
use Rattle.desk_register.specs.Entries.{most_entries, next_number}
use Rattle.desk_register.specs.Rows.{answer_to, entry_of, outcome_by}
use Rattle.desk_register.specs.Run.{docketed_by, docketed_with, numbers_with, reply_by_places, run_by}

-- how many entries a register has taken
abbrev pub entries_taken : DocketRegister → ℕ
entries_taken register = register.count

-- the number of the row that it takes next
abbrev pub number_of_next : DocketRegister → ℕ
number_of_next register = register.number

-- its docket, its numbers, its cases and what these are called are those of the entries under what stands, and it counts them and their rows
pub record StandsAt (under : Standing) (register : DocketRegister) (kept : List (List ℕ)) : Type 0 where
  pub docket : Holds (setup_of under.court) register.docket (docketed_by under kept)
  pub numbers : register.numbers ≡ (run_by under kept).numbers
  pub cases : register.cases ≡ cases_of under kept
  pub called : register.called ≡ called_standing under kept
  pub number : register.number ≡ next_number kept
  pub count : register.count ≡ length kept
  pub begun : 0 < length kept
  pub few : length kept ≤ most_entries

-- and each row that is struck is among them, so that none of those that come is
pub record IsReadyAt (under : Standing) (register : DocketRegister) (kept : List (List ℕ)) : Type 0 where
  pub at : StandsAt under register kept
  pub before : all_before under.corrections (next_number kept) ≡ true

-- a row is done: this is its answer, its entry and what came of it, and the docket, the numbers, the cases and what
-- these are called are those after it
pub record IsDone (under : Standing) (kept : List (List ℕ)) (fields : List (List ℕ)) (row : Row) (name : Option NameView) (register : DocketRegister) (made : Done) : Type 0 where
  pub answer : string_bytes made.answer ≡ answer_to under kept row
  pub entry : made.entry.items ≡ name_line name ++ entry_of under kept fields row
  pub came : made.outcome ≡ outcome_by (reply_by_places under (docketed_by under kept) (run_by under kept).numbers row.work)
  pub docket : Holds (setup_of under.court) register.docket (docketed_with under (run_by under kept) row.work)
  pub numbers : register.numbers ≡ numbers_with under (run_by under kept) (next_number kept) row.work
  pub cases : register.cases ≡ with_opened (cases_of under kept) (opened_as row.work) name
  pub called : register.called ≡ with_newly (called_standing under kept) (newly_called (setup_of under.court) (docketed_by under kept) (run_by under kept).numbers.moved row.work fields)
  pub number : register.number ≡ next_number kept + 1
  pub count : register.count ≡ length kept + 1
