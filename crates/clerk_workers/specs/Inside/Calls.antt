-- The finished calls of a clerk: as a journal has them, and as the answers to the clerk's rows name them.
use Rattle.std.specs.Prelude.{ℕ, ◌==◌, if◌then◌else◌, List, [], ◌∷◌, ◌++◌}
use Rattle.docket_rows.specs.declared.answer.Answer.{Answer}
use Rattle.docket_rows.specs.declared.command.Command.{Command}
use Rattle.row_forms.specs.declared.row.Work.{Work}
use Rattle.row_forms.specs.declared.row.Work.TheVariants as work
use Rattle.clerk_workers.specs.declared.answer.SharedReply.{SharedReply}
use Rattle.clerk_workers.specs.declared.answer.SharedReply.TheVariants.{Made, JournalFull, Viewed}
use Rattle.clerk_workers.specs.Words.{History}

-- a finished call: what was asked for, and how it was answered
pub record Call : Type 0 where
  pub command : Command
  pub answer : Answer

-- the clerk's calls in a history, in order
abbrev pub calls_by : (clerk : ℕ) → History → List Call
calls_by clerk [] = []
calls_by clerk (e ∷ es) =
    if e.clerk == clerk then (record { command = e.command; answer = e.answer }) ∷ calls_by clerk es else calls_by clerk es

-- the finished call that the answer to a row names: none for a query, and none for a command that the journal had no room for
abbrev pub call_told : Work → SharedReply → List Call
call_told (work.Command command) (Made done) = (record { command = command; answer = done.answer }) ∷ []
call_told (work.Command command) JournalFull = []
call_told (work.Command command) (Viewed view) = []
call_told (work.Query query) answer = []

-- the finished calls that the answers to a clerk's rows name, in order
abbrev pub calls_told : List Work → List SharedReply → List Call
calls_told [] answers = []
calls_told (w ∷ works) [] = []
calls_told (w ∷ works) (answer ∷ answers) = call_told w answer ++ calls_told works answers
