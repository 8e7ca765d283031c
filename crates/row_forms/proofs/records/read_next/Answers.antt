use Rattle.std.proofs.Common.{◌≡◌, ◌∙◌, true, inl, refl}
use Rattle.csv.specs.Reading.{error_kind}
use Rattle.csv.specs.Records.{fields_of}
use Rattle.row_forms.specs.Records.{tells_no_text}
use Rattle.row_forms.proofs.ReadingLemmas.{explains_no_text, takes_next, takes_none}
use Rattle.row_forms.proofs.TextLemmas.{text_passes}
use Rattle.row_forms.proofs.records.read_next.Goals as goal

pub returns-then-found-clause-text : goal.returns-then-found-clause-text
returns-then-found-clause-text c e =
    let whole = c.requires.whole in
    let fields = fields_of c.read_record.new.row in
    let read = rw c.if-found.true at (c.in-Ok.ensures.reads whole c.requires.ready) in
    record {
      next = takes_next c.args.reader.now c.read_record.new.self fields c.requires read;
      text = text_passes fields (c.in-Ok.ensures.text whole);
      onward = record {
        whole = read.3 ∙ whole;
        usual = read.2 ∙ c.requires.usual;
        any_length = c.in-Ok.ensures.flexible ∙ c.requires.any_length;
        ready = inl (c.in-Ok.ensures.ready whole);
        sound = c.in-Ok.ensures.goes ∙ c.requires.sound;
      };
    }

pub returns-in-Ok-clause-end : goal.returns-in-Ok-clause-end
returns-in-Ok-clause-end c e =
    let read = rw c.if-found.false at (c.in-Ok.ensures.reads c.requires.whole c.requires.ready) in
    takes_none c.args.reader.now c.read_record.new.self (fields_of c.read_record.new.row) c.requires read

pub returns-in-Utf8-clause-no_text : goal.returns-in-Utf8-clause-no_text
returns-in-Utf8-clause-no_text c e =
    let why = c.in-Err.ensures.why c.requires.whole c.requires.ready in
    let told : tells_no_text (error_kind c.in-Err.error) ≡ true = rw (← c.kind.ensures, c.in-Utf8.is) refl in
    explains_no_text c.args.reader.now c.read_record.new.self (error_kind c.in-Err.error) c.requires told why
