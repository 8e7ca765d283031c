use Rattle.std.proofs.Common.{◌≡◌, ◌≤◌, false, vec_len}
use Rattle.std.specs.Io.KnownBytes.{Consumes}
use Rattle.program_streams.specs.Limits.{most_bytes}
use Rattle.program_streams.specs.Watched.{watched, has_failed, has_ended, was_called_again, read_calls, bytes_given, counted}
use Rattle.program_streams.proofs.input.read_all.Given as goal

abbrev pub invariant-reads : goal.invariant-reads
invariant-reads g l = record {
  consumed : Consumes (g.R.Read.remaining (watched l.fn.reader)) (g.R.Read.remaining (watched l.reader)) l.input.items;
  working : has_failed l.reader ≡ false;
  again : was_called_again l.reader ≡ was_called_again l.fn.reader;
  not_ended : has_ended l.reader ≡ false;
  within : vec_len l.input ≤ most_bytes;
  bytes : bytes_given l.reader ≡ counted (bytes_given l.fn.reader) (vec_len l.input);
  calls : read_calls l.reader ≡ counted (read_calls l.fn.reader) l.counter;
}
