use Rattle.std.proofs.Common.{◌≡◌, ℕ, List, take}
use Rattle.desk_journal.specs.Words.{batch_of}
use Rattle.desk_session.specs.Lines.{lines_from, unfinished_from}
use Rattle.desk_session.specs.Outcomes.{tally_after}
use Rattle.desk_session.specs.Taken.{TakesLines}
use Rattle.desk_session.proofs.gather.gather.Given as goal

-- the lines of the bytes so far are taken
abbrev pub invariant-bytes : goal.invariant-bytes
invariant-bytes g l = record {
  begun : l.begun.items ≡ unfinished_from l.fn.begun.items (take l.byte-index l.bytes);
  taken : (kept : List (List ℕ)) → g.O.Register.stands l.setup l.fn.register kept →
      TakesLines (g.O.Register.leaves l.setup) (g.O.Register.answers l.setup) (g.O.Register.stands l.setup l.register) kept (lines_from l.fn.begun.items (take l.byte-index l.bytes)) (batch_of l.fn.batch.items) (batch_of l.batch.items) l.fn.text.items l.text.items;
  tally : (kept : List (List ℕ)) → g.O.Register.stands l.setup l.fn.register kept →
      l.tally ≡ tally_after (g.O.Register.leaves l.setup) (g.O.Register.outcome l.setup) l.fn.tally kept (lines_from l.fn.begun.items (take l.byte-index l.bytes));
}
