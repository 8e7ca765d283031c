-- What the answers to a clerk's rows say of the one history: each is given at a moment of it, and the moments of a clerk never go back.
use Rattle.std.specs.Prelude.{◌≡◌, ℕ, ◌+◌, ◌≤◌, List, [], ◌∷◌, ◌++◌, length, ⊤}
use mathlib.Core.List.{IsPrefix}
use Rattle.docket_rows.specs.declared.answer.Answer.{Answer}
use Rattle.docket_rows.specs.declared.command.Command.{Command}
use Rattle.docket_rows.specs.Words.{CourtSetup, view_of}
use Rattle.versioned_steps.specs.declared.entry.Entry.{Entry}
use Rattle.shared_docket.specs.Words.{rows_of}
use Rattle.clerk_seats.specs.declared.done.Done.{Done}
use Rattle.row_forms.specs.declared.row.Work.{Work}
use Rattle.row_forms.specs.declared.row.Work.TheVariants as work
use Rattle.clerk_workers.specs.declared.answer.SharedReply.{SharedReply}
use Rattle.clerk_workers.specs.declared.answer.SharedReply.TheVariants.{Made, JournalFull, Viewed}

abbrev pub History : Type 0
History = List (Entry Command Answer)

-- the places of the finished calls, as these answers name them
abbrev pub place_told : SharedReply → List ℕ
place_told (Made done) = done.place ∷ []
place_told JournalFull = []
place_told (Viewed view) = []

abbrev pub places_told : List SharedReply → List ℕ
places_told [] = []
places_told (answer ∷ answers) = place_told answer ++ places_told answers

-- as many answers as works, one after another, each at a moment that follows the one before it in this way
abbrev pub AreInTurn : (Follows : (before : History) → Work → SharedReply → (moment : History) → Type 0) → (before : History) → List Work → List SharedReply → Type 0
AreInTurn Follows before [] [] = ⊤
AreInTurn Follows before [] (answer ∷ answers) = ⊥
AreInTurn Follows before (w ∷ works) [] = ⊥
AreInTurn Follows before (w ∷ works) (answer ∷ answers) =
    (moment : History) × Follows before w answer moment × AreInTurn Follows moment works answers

module _ (setup : CourtSetup) (limit number : ℕ) where
  -- at this moment the clerk's command is the last entry, with the answer and at the place that the clerk was given; it came after the
  -- first history, and no later than the journal takes entries
  pub record IsFinished (before : History) (command : Command) (done : Done) (moment : History) : Type 0 where
    pub earlier : History
    pub later : IsPrefix before earlier
    pub moment_is : moment ≡ earlier ++ (record { clerk = number; command = command; answer = done.answer }) ∷ []
    pub place_is : done.place ≡ length earlier + 1
    pub within : done.place ≤ limit

  -- what the answer to a row says of the moment at which it is given: the command was finished, or the journal has all the entries that it
  -- takes; a query shows the docket as it is then
  abbrev pub Says : (before : History) → Work → SharedReply → (moment : History) → Type 0
  Says before (work.Command command) (Made done) moment = IsFinished before command done moment
  Says before (work.Command command) JournalFull moment = limit ≤ length moment
  Says before (work.Command command) (Viewed view) moment = ⊥
  Says before (work.Query query) (Made done) moment = ⊥
  Says before (work.Query query) JournalFull moment = ⊥
  Says before (work.Query query) (Viewed view) moment = view ≡ view_of setup (rows_of setup moment) query

  module _ (seen : History) where
    -- the row is answered at this moment of what was seen, no earlier than the one before
    pub record IsAnsweredAt (before : History) (w : Work) (answer : SharedReply) (moment : History) : Type 0 where
      pub later : IsPrefix before moment
      pub beginning : IsPrefix moment seen
      pub says : Says before w answer moment

    -- each of them is answered so, one after another
    abbrev pub AreAnswered : (before : History) → List Work → List SharedReply → Type 0
    AreAnswered before works answers = AreInTurn IsAnsweredAt before works answers
