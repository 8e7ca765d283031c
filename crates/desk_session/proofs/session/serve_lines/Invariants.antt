use Rattle.std.proofs.Common.{◌≡◌, ◌≤◌, ℕ, List, false}
use Rattle.std.specs.Io.KnownBytes.{Consumes}
use Rattle.desk_journal.specs.Words.{StampView}
use Rattle.program_streams.specs.Words.{counted, has_failed, read_calls, watched}
use Rattle.desk_session.specs.Lines.{lines_of, unfinished_of}
use Rattle.desk_session.specs.Outcomes.{tally_of}
use Rattle.desk_session.specs.Served.{IsServed}
use Rattle.desk_session.specs.Stamped.{IsStampedOn}
use Rattle.desk_session.proofs.session.serve_lines.Given as goal

-- the lines of the bytes that were read are served and counted
abbrev pub invariant-reads : goal.invariant-reads
invariant-reads g l =
    (bytes : List ℕ) × Consumes (g.R.Read.remaining (watched l.fn.reader)) (g.R.Read.remaining (watched l.reader)) bytes
    × (l.begun.items ≡ unfinished_of bytes)
    × (has_failed l.writer ≡ false)
    × (counted (read_calls l.fn.reader) l.counter ≤ read_calls l.reader)
    × (g.K.Keeper.account l.keeper ≡ g.K.Keeper.account l.fn.keeper)
    × ((stamps : List StampView) → g.K.Keeper.has_stamps l.fn.keeper stamps → IsStampedOn (g.K.Keeper.account l.fn.keeper) (g.K.Keeper.has_stamps l.keeper) stamps)
    × (g.K.Keeper.is_clean l.keeper → g.K.Keeper.is_clean l.fn.keeper)
    × ((kept : List (List ℕ)) → g.K.Keeper.keeps l.fn.keeper kept → g.O.Register.stands l.setup l.fn.register kept →
    (l.tally ≡ tally_of (g.O.Register.leaves l.setup) (g.O.Register.outcome l.setup) kept (lines_of bytes))
    × IsServed (g.O.Register.leaves l.setup) (g.O.Register.answers l.setup) (g.K.Keeper.keeps l.keeper) (g.O.Register.stands l.setup l.register) kept (lines_of bytes)
    (g.W.Write.contents (watched l.fn.writer)) (g.W.Write.contents (watched l.writer)))
