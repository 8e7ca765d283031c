use Rattle.std.proofs.Common.{◌∙◌, [], ap, sym, arith}
use Rattle.std.specs.Prelude.{string_bytes}
use Rattle.csv.specs.Records.{fields_of}
use Rattle.row_fields.specs.Words.{said_map}
use Rattle.row_written.specs.Names.{name_said, names_after}
use Rattle.row_written.proofs.RowLemmas.{piece_clear, piece_unclear, piece_unknown, pieces_past}
use Rattle.row_written.proofs.names.panel_of.Goals as goal

pub loop-i-preserved : goal.loop-i-preserved
loop-i-preserved c =
    let judges = c.args.court.now.judges in
    let shorts = c.args.court.now.periods.shorts in
    let pieces = fields_of c.args.pieces.now in
    rw (c.in_ok-push_name-in-Clear.ensures, c.as_str.ensures.value)
    (piece_clear shorts judges pieces (string_bytes c.loop-i.names) c.loop-i.i (names_after shorts judges [] pieces) c.loop-i.invariant (omega arith) (string_bytes c.in-Clear.name)
    (sym (ap (said_map string_bytes) c.in-Clear.is) ∙ c.in_ok-name.ensures ∙ ap (name_said shorts judges) c.word_at-piece.ensures))

pub returns-in-Unknown : goal.returns-in-Unknown
returns-in-Unknown c =
    let judges = c.args.court.now.judges in
    let shorts = c.args.court.now.periods.shorts in
    let pieces = fields_of c.args.pieces.now in
    piece_unknown shorts judges pieces (string_bytes c.loop-i.names) c.loop-i.i (names_after shorts judges [] pieces) c.loop-i.invariant (omega arith)
    (sym (ap (said_map string_bytes) c.in-Unknown.is) ∙ c.in_ok-name.ensures ∙ ap (name_said shorts judges) c.word_at-piece.ensures)

pub returns-in-Unclear : goal.returns-in-Unclear
returns-in-Unclear c =
    let judges = c.args.court.now.judges in
    let shorts = c.args.court.now.periods.shorts in
    let pieces = fields_of c.args.pieces.now in
    piece_unclear shorts judges pieces (string_bytes c.loop-i.names) c.loop-i.i (names_after shorts judges [] pieces) c.loop-i.invariant (omega arith) (string_bytes c.in-Unclear.one) (string_bytes c.in-Unclear.other)
    (sym (ap (said_map string_bytes) c.in-Unclear.is) ∙ c.in_ok-name.ensures ∙ ap (name_said shorts judges) c.word_at-piece.ensures)

pub returns : goal.returns
returns c =
    let judges = c.args.court.now.judges in
    let shorts = c.args.court.now.periods.shorts in
    let pieces = fields_of c.args.pieces.now in
    pieces_past shorts judges pieces (string_bytes c.loop-i.names) c.loop-i.i (names_after shorts judges [] pieces) c.loop-i.invariant (omega arith)
