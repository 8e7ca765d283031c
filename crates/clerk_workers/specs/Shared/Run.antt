-- What a run of several clerks comes to: one journal, and an answer to each row.
use Rattle.std.specs.Prelude.{◌≡◌, ℕ, ◌≤◌, true, List, [], ◌∷◌, ◌++◌, length, All}
use Rattle.docket_rows.specs.declared.answer.Answer.{Answer}
use Rattle.docket_rows.specs.declared.command.Command.{Command}
use Rattle.docket_rows.specs.Words.{CourtSetup}
use Rattle.versioned_steps.specs.declared.entry.Entry.{Entry}
use Rattle.versioned_steps.specs.Words.{is_legal}
use Rattle.shared_docket.specs.Words.{docket_rules, IsSequential}
use Rattle.row_forms.specs.declared.row.Row.{Row}
use Rattle.row_forms.specs.declared.row.Work.{Work}
use Rattle.clerk_workers.specs.declared.answer.SharedReply.{SharedReply}
use Rattle.clerk_workers.specs.declared.answer.SharedReply.TheVariants.{JournalFull}
use Rattle.row_forms.specs.Words.{IsClerk}
use Rattle.clerk_workers.specs.Words.{AreInTurn, History, IsAnsweredAt, answers_of, places_told, works_of}
use Rattle.clerk_workers.specs.Inside.Calls.{calls_by, call_told, calls_told}

module _ (setup : CourtSetup) (limit : ℕ) (journal : History) (clerk : ℕ) where
  -- the row is answered at this moment of the journal, which since the moment before has just the clerk's call for this row, if it is one
  pub record IsGivenAt (before : History) (w : Work) (answer : SharedReply) (moment : History) : Type 0 where
    pub answered : IsAnsweredAt setup limit clerk journal before w answer moment
    pub calls : calls_by clerk moment ≡ calls_by clerk before ++ call_told w answer

  -- the journal and the answers to the clerk's rows agree: its entries of the clerk are the commands that were finished, in order, with
  -- these answers; and after an answer that the journal is full no command was finished
  pub record IsTold (works : List Work) (answers : List SharedReply) : Type 0 where
    pub calls : calls_by clerk journal ≡ calls_told works answers
    pub given : AreInTurn IsGivenAt [] works answers
    pub full : (first later : List SharedReply) → answers ≡ first ++ JournalFull ∷ later → places_told later ≡ []

-- the clerks shared an office, whose journal takes no more entries than the limit. These are their rows, the answers to them, and the
-- journal. It is legal, has the answers of one clerk's docket to the same commands, and has no entry of anyone else
pub record IsSharedRun (setup : CourtSetup) (clerks limit : ℕ) (rows : List Row) (answers : List SharedReply) (journal : History) : Type 0 where
  pub legal : is_legal (docket_rules setup) journal ≡ true
  pub sequential : IsSequential setup journal
  pub few : length journal ≤ limit
  pub as_many : length answers ≡ length rows
  pub each : (clerk : ℕ) → IsClerk clerks clerk → IsTold setup limit journal clerk (works_of clerk rows) (answers_of clerk rows answers)
  pub no_other : All (λ (e : Entry Command Answer). IsClerk clerks e.clerk) journal
