-- What a read of a record says of the records that the reader had left.
use Rattle.std.proofs.Common.{◌≡◌, ◌∙◌, ℕ, Bool, true, false, List, [], ◌∷◌, Option, Some, None, Result, Ok, Bor, cond, refl, sym, ap}
use Rattle.std.specs.Option.{option_map, option_map_or}
use Rattle.csv.specs.Machine.{Read, next_record}
use Rattle.csv.specs.Reading.{NextIs, Reached, ReadRecord, ReadsNext, TookRecord, ExplainsRead, buffered_of, default_config, has_failed, pending_of, records, source_of, strip_bom}
use Rattle.csv.specs.Records.{AllText}
use Rattle.csv.specs.declared.parser.Config.{Config}
use Rattle.csv.specs.declared.parser.State.{State}
use Rattle.csv.specs.declared.error.ErrorKind.{ErrorKind}
use Rattle.csv.specs.declared.error.ErrorKind.TheVariants as kind
use Rattle.csv.specs.declared.parser.State.TheVariants as st
use Rattle.csv.specs.declared.reader.Reader.{Reader}
use Rattle.csv.proofs.ReadFacts.{rows-end, rows-more}
use Rattle.row_forms.specs.declared.records.Next.{Next}
use Rattle.row_forms.specs.declared.records.Next.TheVariants.{Text, NotText, End}
use Rattle.row_forms.specs.Records.{MeetsNoText, TakesAnyRow, TakesText, tells_no_text, all_records, records_left}
use Rattle.row_forms.proofs.RecordsLemmas.{all_records-none, all_records-some, all_records-start}
use Rattle.row_forms.proofs.TextLemmas.{else_fails}

-- the bytes of a slice
abbrev slice_bytes : Bor (List ℕ) → Option (List ℕ)
slice_bytes s = Some s.now

-- a reader over a slice that hasn't failed knows its bytes
known_source : (r : Reader (Bor (List ℕ))) → has_failed r ≡ false → (text : List ℕ) × (source_of slice_bytes r ≡ Some text)
known_source r sound = rw sound (by _)
  where
    by : (b : Bool) → (text : List ℕ) × (cond b (option_map strip_bom (slice_bytes r.rdr)) (buffered_of (slice_bytes r.rdr) r) ≡ Some text)
    by true = (_, refl)
    by false = (_, refl)

-- the records that are left, where the bytes are known
left_of : (r : Reader (Bor (List ℕ))) (text : List ℕ) → source_of slice_bytes r ≡ Some text → records_left r ≡ all_records default_config r.state text
left_of r text known = ap (λ known_bytes. option_map_or (all_records default_config r.state) known_bytes []) known

-- the first record and the later ones, by other names
by_parts : (p : Read) (fields : List (List ℕ)) (s : State) (rest : List ℕ) → fields ≡ p.0 → p.1 ≡ s → p.2 ≡ rest
    → p.0 ∷ all_records default_config p.1 p.2 ≡ fields ∷ all_records default_config s rest
by_parts p fields s rest f e g = rw (f, ← e, ← g) refl

-- at the start it has all records of the text
pub records_left_start : (r : Reader (Bor (List ℕ))) (text : List ℕ) → source_of slice_bytes r ≡ Some text → r.state ≡ st.StartRecord → records_left r ≡ records default_config text
records_left_start r text known start = left_of r text known ∙ ap (λ s. all_records default_config s text) start ∙ all_records-start default_config text

-- a read that found a record
pub takes_next : (a b : Reader (Bor (List ℕ))) (fields : List (List ℕ)) → TakesAnyRow a → ReadRecord slice_bytes a b true fields → records_left a ≡ fields ∷ records_left b
unfolding Reached
takes_next a b fields able read =
    let (text, known) = known_source a able.sound in
    let (rest, left, reached) = rows-more slice_bytes a b fields default_config a.state text text [] able.usual known (refl, refl) read in
    let (p, next, same, ends) = reached in
    left_of a text known ∙ all_records-some default_config a.state text p next ∙ by_parts p fields b.state rest same ends.0 ends.1 ∙ ap (λ later. fields ∷ later) (sym (left_of b rest left))

-- a read that found none
pub takes_none : (a b : Reader (Bor (List ℕ))) (fields : List (List ℕ)) → TakesAnyRow a → ReadRecord slice_bytes a b false fields → records_left a ≡ []
takes_none a b fields able read =
    let (text, known) = known_source a able.sound in
    left_of a text known ∙ all_records-none default_config a.state text (rows-end slice_bytes a b fields default_config text able.usual known read)

-- the record that a read took, whatever became of it
took : (cfg : Config) (s s2 : State) (text : List ℕ) (after : Option (List ℕ)) (fields : List (List ℕ)) → ReadsNext cfg s (Some text) after true fields s2
    → (p : Read) × (next_record cfg s [] [] text ≡ Some p) × (fields ≡ p.0)
took cfg s s2 text None fields h = absurd h
took cfg s s2 text (Some rest) fields h = by (next_record cfg s [] [] text) refl h
  where
    by : (o : Option Read) → next_record cfg s [] [] text ≡ o → NextIs o true fields s2 rest → (p : Read) × (next_record cfg s [] [] text ≡ Some p) × (fields ≡ p.0)
    by None e n = cc n
    by (Some p) e n = (p, e, n.1)

-- a read that met fields which are no text
meets_no_text : (a b : Reader (Bor (List ℕ))) (fields : List (List ℕ)) → TakesAnyRow a → TookRecord slice_bytes a b fields → (AllText fields → ⊥) → MeetsNoText a
meets_no_text a b fields able read none =
    let (text, known) = known_source a able.sound in
    let (p, found, same) = took a.config a.state b.state text (pending_of (slice_bytes b.rdr) b) fields (rw known at read) in
    let next = ap (λ cfg. next_record cfg a.state [] [] text) (sym able.usual) ∙ found in
    record {
      fields = fields;
      later = all_records default_config p.1 p.2;
      next = left_of a text known ∙ all_records-some default_config a.state text p next ∙ by_parts p fields p.1 p.2 same refl refl;
      no_text = else_fails fields none;
    }

pub explains_no_text : (a b : Reader (Bor (List ℕ))) (why : ErrorKind) → TakesAnyRow a → tells_no_text why ≡ true → ExplainsRead slice_bytes a b true why → MeetsNoText a
explains_no_text a b (kind.Utf8 pos err) able e h = meets_no_text a b h.1 able h.2 h.3
explains_no_text a b (kind.Io err) able e h = cc e
explains_no_text a b (kind.UnequalLengths pos expected len) able e h = cc e
explains_no_text a b kind.OutOfMemory able e h = cc e
explains_no_text a b (kind.Serialize why) able e h = cc e
explains_no_text a b (kind.Deserialize pos err) able e h = cc e

-- there is a record, be it text or not
pub another : {E : Type 0} (a b : Reader (Bor (List ℕ))) (fields : List (List ℕ)) (next : Next) → (next ≡ End → ⊥)
    → (◌≡◌ {A = Result Next E} (Ok next) (Ok Text) → TakesText a b fields) → (◌≡◌ {A = Result Next E} (Ok next) (Ok NotText) → MeetsNoText a) → (first : List (List ℕ)) × (later : List (List (List ℕ))) × (records_left a ≡ first ∷ later)
another a b fields Text some text no_text = (fields, records_left b, (text refl).next)
another a b fields NotText some text no_text = let meets = no_text refl in (meets.fields, meets.later, meets.next)
another a b fields End some text no_text = absurd (some refl)
