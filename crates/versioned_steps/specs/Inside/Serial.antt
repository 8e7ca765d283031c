-- The commands of a history decided one after another, each alone: no clerks, no drafts, no versions.
use Rattle.std.specs.Prelude.{◌≡◌, List, [], ◌∷◌, map}
use Rattle.versioned_steps.specs.Rules.{Rules}
use Rattle.versioned_steps.specs.History.{written, answer_on, writes_on, value_of}
use Rattle.versioned_steps.specs.declared.entry.Entry.{Entry}

-- the answers, and the values that the parts then have
pub record Served (Part Value Answer : Type 0) : Type 0 where
  pub answers : List Answer
  pub values : Part → Value

module _ {Part Value Command Answer : Type 0} (r : Rules Part Value Command Answer) where
  -- these commands, from these values on
  abbrev pub served : (Part → Value) → List Command → Served Part Value Answer
  served values [] = record { answers = []; values = values }
  served values (command ∷ commands) =
      let rest = served (written r values (writes_on r values command)) commands in
      record { answers = answer_on r values command ∷ rest.answers; values = rest.values }

  -- the history is a serial one: its commands in order, each decided alone, give its answers and its parts
  pub record IsSerial (history : List (Entry Command Answer)) : Type 0 where
    pub answers : map (λ e. e.answer) history ≡ (served r.opening (map (λ e. e.command) history)).answers
    pub values : (part : Part) → value_of r history part ≡ (served r.opening (map (λ e. e.command) history)).values part
