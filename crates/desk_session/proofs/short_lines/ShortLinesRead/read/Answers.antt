use Rattle.std.proofs.Common.{◌≡◌, ◌∙◌, ◌<◌, ℕ, drop, length, take, arith, sym, ap}
use Rattle.std.proofs.lemmas.List.{length-append, length-drop, take-append-le}
use Rattle.desk_session.specs.ShortLines.{short_from}
use Rattle.desk_session.proofs.ShortLineLemmas.{nothing_read, short_end, short_read}
use Rattle.desk_session.proofs.short_lines.ShortLinesRead.read.Goals as goal

pub returns-then-kept-gt0-clause-bytes : goal.returns-then-kept-gt0-clause-bytes
returns-then-kept-gt0-clause-bytes g c =
    let came = take c.in_ok-given.given c.read.new.buf in
    let rest = drop c.in_ok-given.given c.read.new.buf in
    let bytes = take-append-le c.shorten-kept.result c.shorten-kept.new.bytes rest c.shorten-kept.ensures.within ∙ c.shorten-kept.ensures.bytes in (
      rw (bytes, c.shorten-kept.ensures.count) (short_read _ c.reads.self.count _ _ came c.reads.invariant c.in_ok-given.ensures.bytes.0),
      λ none some.
          let ended : c.in_ok-given.given ≡ 0 = omega arith in
          let room : 0 < length c.read.new.buf = omega (arith, length-append c.shorten-kept.new.bytes rest, length-drop c.in_ok-given.given c.read.new.buf) in
          short_end c.shorten-kept.new.count _ (c.in_ok-given.ensures.bytes.1 ended room),
    )

pub reads-preserved : goal.reads-preserved
reads-preserved g c =
    let came = take c.in_ok-given.given c.read.new.buf in
    let none : c.shorten-kept.result ≡ 0 = omega arith in
    let nothing = sym c.shorten-kept.ensures.bytes ∙ ap (λ (n : ℕ). take n c.shorten-kept.new.bytes) none in
    rw c.shorten-kept.ensures.count
    (nothing_read _ _ (short_from c.reads.self.count came) nothing (short_read _ c.reads.self.count _ _ came c.reads.invariant c.in_ok-given.ensures.bytes.0))
