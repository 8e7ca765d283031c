-- Inputs, line by line.
use Rattle.std.proofs.Common.{◌≡◌, ◌∙◌, ◌+◌, ◌≤◌, ◌==◌, ℕ, Bool, true, false, cond, List, [], ◌∷◌, ◌++◌, length, length-append, refl, sym, ap, append_assoc, append-nil, arith}
use Rattle.std.specs.Prelude.{Option}
use Rattle.std.proofs.lemmas.List.Elements.{All-head, All-tail}
use Rattle.court_file_text.specs.Words.{NamedTextView}
use Rattle.desk_session.specs.Lines.{ends_line}
use Rattle.desk_session.specs.Words.{HasNoEnd, IsFirstLine, number_after, numbered_from}
use Rattle.desk_session.proofs.CallerLemmas.{numbered_from-first, numbered_from-none}
use Rattle.row_forms.specs.Words.{CourtNames}
use Rattle.row_fields.specs.declared.dates.DateOrder.{DateOrder}
use Rattle.row_written.proofs.CallerLemmas.{found_all, found_more}
use Rattle.row_input.specs.Reading.{FaultyText, faults_as, faulty_of, header_then, lines_as, placed_as, placed_from, rows_of}

-- the first line of bytes, with a plain row in its place, and those after it
module _ (clerks : ℕ) (names : CourtNames) (own : List NamedTextView) (order : Option DateOrder) (marked joined : Bool) (header : Option (List (List ℕ))) where
  placed_within : (begun some more : List ℕ) → HasNoEnd some → placed_from clerks names own order marked joined header begun (some ++ more) ≡ placed_from clerks names own order marked joined header (begun ++ some) more
  unfolding placed_from
  placed_within begun [] more none = ap (λ (b : List ℕ). placed_from clerks names own order marked joined header b more) (sym (append-nil begun))
  placed_within begun (byte ∷ some) more none =
      rw (All-head (λ (b : ℕ). ends_line b ≡ false) byte some none)
      (placed_within (begun ++ byte ∷ []) some more (All-tail (λ (b : ℕ). ends_line b ≡ false) byte some none)
      ∙ ap (λ (b : List ℕ). placed_from clerks names own order marked joined header b more) (append_assoc begun (byte ∷ []) some))

  placed_ends : (line : List ℕ) (end : ℕ) (after : List ℕ) → ends_line end ≡ true
      → placed_from clerks names own order marked joined header line (end ∷ after) ≡ placed_as clerks names own order marked joined header line ++ end ∷ placed_from clerks names own order marked joined (header_then clerks names own order marked header line) [] after
  unfolding placed_from
  placed_ends line end after ends = rw ends refl

  placed_first : (bytes line : List ℕ) (end : ℕ) (after : List ℕ) → IsFirstLine bytes line end after
      → placed_from clerks names own order marked joined header [] bytes ≡ (placed_as clerks names own order marked joined header line ++ end ∷ []) ++ placed_from clerks names own order marked joined (header_then clerks names own order marked header line) [] after
  placed_first bytes line end after first =
      ap (placed_from clerks names own order marked joined header []) first.parts ∙ placed_within [] line (end ∷ after) first.within ∙ placed_ends line end after first.ends
      ∙ sym (append_assoc (placed_as clerks names own order marked joined header line) (end ∷ []) (placed_from clerks names own order marked joined (header_then clerks names own order marked header line) [] after))

  pub placed_none : (bytes : List ℕ) → HasNoEnd bytes → placed_from clerks names own order marked joined header [] bytes ≡ []
  unfolding placed_from
  placed_none bytes none = ap (placed_from clerks names own order marked joined header []) (sym (append-nil bytes)) ∙ placed_within [] bytes [] none

module _ (clerks : ℕ) (names : CourtNames) (own : List NamedTextView) (order : Option DateOrder) (marked joined : Bool) (header then : Option (List (List ℕ))) (number : ℕ) (rest line : List ℕ) (end : ℕ) (after : List ℕ) (first : IsFirstLine rest line end after)
    (next : then ≡ header_then clerks names own order marked header line) where
  -- the rows of an input are those that were found, that of its first line and those of what is left
  pub rows_more : (found more all : List ℕ) → found ++ rows_of clerks names own order marked header (numbered_from number [] rest) ≡ all → more ≡ found ++ lines_as clerks names own order marked header line
      → more ++ rows_of clerks names own order marked then (numbered_from (number_after number end) [] after) ≡ all
  unfolding rows_of
  rows_more found more all whole is =
      found_more found (lines_as clerks names own order marked header line) more (rows_of clerks names own order marked header (numbered_from number [] rest)) (rows_of clerks names own order marked then (numbered_from (number_after number end) [] after)) all whole
      (rw next (ap (rows_of clerks names own order marked header) (numbered_from-first number rest line end after first))) is

  -- likewise the rows in place of lines
  pub placed_more : (found more all : List ℕ) → found ++ placed_from clerks names own order marked joined header [] rest ≡ all → more ≡ found ++ (placed_as clerks names own order marked joined header line ++ end ∷ [])
      → more ++ placed_from clerks names own order marked joined then [] after ≡ all
  placed_more found more all whole is =
      found_more found (placed_as clerks names own order marked joined header line ++ end ∷ []) more (placed_from clerks names own order marked joined header [] rest) (placed_from clerks names own order marked joined then [] after) all whole
      (rw next (placed_first clerks names own order marked joined header rest line end after first)) is

  -- likewise the lines that have faults
  pub faulty_more : (found more all : List FaultyText) → found ++ faulty_of clerks names own order marked header (numbered_from number [] rest) ≡ all → more ≡ found ++ faults_as clerks names own order marked header number line
      → more ++ faulty_of clerks names own order marked then (numbered_from (number_after number end) [] after) ≡ all
  unfolding faulty_of
  faulty_more found more all whole is =
      found_more found (faults_as clerks names own order marked header number line) more (faulty_of clerks names own order marked header (numbered_from number [] rest)) (faulty_of clerks names own order marked then (numbered_from (number_after number end) [] after)) all whole
      (rw next (ap (faulty_of clerks names own order marked header) (numbered_from-first number rest line end after first))) is

-- and where no line is left, they are those that were found
module _ (clerks : ℕ) (names : CourtNames) (own : List NamedTextView) (order : Option DateOrder) (marked joined : Bool) (header : Option (List (List ℕ))) (number : ℕ) (rest : List ℕ) (none : HasNoEnd rest) where
  pub rows_all : (found all : List ℕ) → found ++ rows_of clerks names own order marked header (numbered_from number [] rest) ≡ all → found ≡ all
  unfolding rows_of
  rows_all found all whole = found_all found (rows_of clerks names own order marked header (numbered_from number [] rest)) all whole (ap (rows_of clerks names own order marked header) (numbered_from-none number rest none))

  pub placed_all : (found all : List ℕ) → found ++ placed_from clerks names own order marked joined header [] rest ≡ all → found ≡ all
  placed_all found all whole = found_all found (placed_from clerks names own order marked joined header [] rest) all whole (placed_none clerks names own order marked joined header rest none)

  pub faulty_all : (found all : List FaultyText) → found ++ faulty_of clerks names own order marked header (numbered_from number [] rest) ≡ all → found ≡ all
  unfolding faulty_of
  faulty_all found all whole = found_all found (faulty_of clerks names own order marked header (numbered_from number [] rest)) all whole (ap (faulty_of clerks names own order marked header) (numbered_from-none number rest none))

-- the number of the next line is no more than that of this one and the bytes that are read of it
pub number_within : (number : ℕ) (rest line : List ℕ) (end : ℕ) (after : List ℕ) (most : ℕ) → IsFirstLine rest line end after → number + length rest ≤ most → number_after number end + length after ≤ most
number_within number rest line end after most first within = by (end == 10)
  where
    long : length rest ≡ length line + (length after + 1)
    long = ap length first.parts ∙ length-append line (end ∷ after) ∙ omega arith

    by : (feed : Bool) → cond feed (number + 1) number + length after ≤ most
    by true = omega (arith, within, long)
    by false = omega (arith, within, long)
