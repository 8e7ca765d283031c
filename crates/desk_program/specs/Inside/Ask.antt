-- Questions on the docket to which entries come.
use Rattle.std.specs.Prelude.{◌≡◌, ℕ, List, [], Option}
use Rattle.std.specs.Io.KnownBytes.{Appends}
use Rattle.program_streams.specs.Words.{AppendsFront}
use Rattle.desk_session.specs.declared.outcome.Tally.{Tally}
use Rattle.desk_session.specs.Words.{tally_of, told_to}
use Rattle.desk_register.specs.declared.standing.Standing.{Standing}
use Rattle.desk_entries.specs.Words.{StandsAfter, came_shown, shown}

-- Each line is answered as a question on the docket after the entries, under what stands there. No line changes what the next is
-- answered. The tally says how many lines there were, and how many had faults.
pub record AnswersQuestions (entries lines : List (List ℕ)) (tally : Tally) (before after : Option (List ℕ)) : Type 0 where
  pub under : Standing
  pub stands : StandsAfter entries under
  pub told : Appends before after (told_to (λ kept line. []) (shown under) entries lines)
  pub counted : tally ≡ tally_of (λ kept line. []) (came_shown under) entries lines

-- What is written is a beginning of these answers.
pub record AnswersInPart (entries lines : List (List ℕ)) (before after : Option (List ℕ)) : Type 0 where
  pub under : Standing
  pub stands : StandsAfter entries under
  pub told : AppendsFront before after (told_to (λ kept line. []) (shown under) entries lines)
