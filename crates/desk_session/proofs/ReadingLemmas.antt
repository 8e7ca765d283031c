-- The lines that one read of an input ends.
use Rattle.std.proofs.Common.{◌≡◌, ◌∙◌, ◌+◌, ◌<◌, ℕ, List, [], ◌++◌, drop, get_or, length, take, true, sym, ap, append_assoc}
use Rattle.std.proofs.lemmas.List.{take_more, take-append-drop}
use Rattle.desk_session.specs.Lines.{ends_line, unfinished_from}
use Rattle.desk_session.specs.Reading.{IsCutInLines}
use Rattle.desk_session.proofs.LineLemmas.{finished_by, unfinished_from-append}

-- after an end no line has begun, whatever came before it
pub ended_at : (bytes : List ℕ) (n count : ℕ) → count ≡ n + 1 → n < length bytes → ends_line (get_or bytes n 0) ≡ true → (begun : List ℕ) → unfinished_from begun (take count bytes) ≡ []
ended_at bytes n count is within ends begun =
    ap (λ (k : ℕ). unfinished_from begun (take k bytes)) is
    ∙ ap (unfinished_from begun) (take_more bytes n 0 within)
    ∙ finished_by begun (take n bytes) (get_or bytes n 0) ends

-- the line that had begun goes on with what is ended, and the rest begins the next
pub cut_so : (begun bytes lines rest : List ℕ) (count : ℕ) → lines ≡ begun ++ take count bytes → rest ≡ drop count bytes
    → ((some : List ℕ) → unfinished_from some (take count bytes) ≡ []) → IsCutInLines begun bytes lines rest
cut_so begun bytes lines rest count lines_are rest_is ended = record {
  parts =
      ap (λ (b : List ℕ). begun ++ b) (sym (take-append-drop count bytes))
      ∙ sym (append_assoc begun (take count bytes) (drop count bytes))
      ∙ sym (ap (λ (l : List ℕ). l ++ rest) lines_are ∙ ap (λ (r : List ℕ). (begun ++ take count bytes) ++ r) rest_is);
  whole = ap (unfinished_from []) lines_are ∙ unfinished_from-append [] begun (take count bytes) ∙ ended (unfinished_from [] begun);
}

-- nothing is ended, and all of it goes on with the line that had begun
pub none_ended : (begun bytes front back lines rest : List ℕ) (count : ℕ) → front ≡ take count bytes → back ≡ drop count bytes → front ≡ [] → lines ≡ [] → rest ≡ begun ++ back → IsCutInLines begun bytes lines rest
unfolding unfinished_from
none_ended begun bytes front back lines rest count front_is back_is none lines_are rest_is =
    let all : bytes ≡ back = sym (take-append-drop count bytes) ∙ ap (λ (f : List ℕ). f ++ drop count bytes) (sym front_is ∙ none) ∙ sym back_is in
    record {
      parts = ap (λ (b : List ℕ). begun ++ b) all ∙ sym rest_is ∙ sym (ap (λ (l : List ℕ). l ++ rest) lines_are);
      whole = ap (unfinished_from []) lines_are;
    }
