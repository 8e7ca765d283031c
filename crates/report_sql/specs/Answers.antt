-- The rows of answers.
use Rattle.std.specs.Prelude.{ℕ, ◌-◌, List, [], ◌∷◌, ◌++◌, length, take, codes}
use Rattle.case_numbers.specs.declared.names.NamedCase.{NamedCase}
use Rattle.court_days.specs.Words.{CourtView}
use Rattle.docket_rows.specs.declared.answer.Answer.TheVariants as answer
use Rattle.docket_rows.specs.declared.view.View.TheVariants as view
use Rattle.docket_rows.specs.Words.{Rows, refusal_number, setup_of}
use Rattle.row_forms.specs.declared.numbered.NumberedRow.{NumberedRow}
use Rattle.office_texts.specs.declared.run.reply.Reply.{Reply}
use Rattle.office_texts.specs.declared.run.reply.Reply.TheVariants.{Made, Viewed}
use Rattle.office_texts.specs.Run.Words.{docketed_then, reply_to}
use Rattle.office_texts.specs.Named.Words.{named_reply}
use Rattle.report_texts.specs.Words.{LabelsView}
use Rattle.desk_numbers.specs.Words.{numbered}
use Rattle.report_sql.specs.Rows.{SqlValue, null, number, row_of, text}

-- the number of the refusal; NULL where a row isn't refused
abbrev pub refusal_value : Reply → SqlValue
refusal_value (Made (answer.Refused refusal)) = number (refusal_number refusal)
refusal_value (Viewed (view.Refused refusal)) = number (refusal_number refusal)
refusal_value _ = null

-- what is written of a reply, with the names of cases, without the end of its last line
unfoldable pub answer_words : CourtView → List NamedCase → Reply → List ℕ
answer_words court named reply = take (length (named_reply court named reply) - 1) (named_reply court named reply)

-- the row of that number, counted from 1, and that of its clerk, with what it was answered
unfoldable pub answer_row : CourtView → List NamedCase → (place clerk : ℕ) → Reply → List ℕ
answer_row court named place clerk reply = row_of (codes "answers") place (number clerk ∷ refusal_value reply ∷ text (answer_words court named reply) ∷ [])

-- what each row is answered, with its number; deadlines and motions have the numbers that they keep
unfoldable pub answer_rows : CourtView → LabelsView → (docketed : Rows) → List NumberedRow → List ℕ
answer_rows court labels docketed [] = []
answer_rows court labels docketed (n ∷ rows) =
    answer_row court labels.cases n.number n.row.clerk (numbered labels.moved n.row.work (reply_to (setup_of court) docketed n.row.work))
    ++ answer_rows court labels (docketed_then (setup_of court) docketed n.row.work) rows
