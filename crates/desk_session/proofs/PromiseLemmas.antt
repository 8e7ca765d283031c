-- What a session promises, led from one batch of lines to the next.
use Rattle.std.proofs.Common.{◌≡◌, ◌∙◌, ◌⊎◌, inl, inr, ℕ, ◌+◌, ◌≤◌, List, [], ◌++◌, Option, None, Some, IfSome, drop, length, take, take-append-drop, refl, sym, ap, subst, arith, append_assoc, append-nil}
use Rattle.std.proofs.Math.Seq.{take-append-add, take-length}
use Rattle.std.proofs.KnownBytes.{Appends-nil, Appends-trans, Consumes-trans, starts_with_rest}
use Rattle.std.proofs.Transfers.{starts_with_of_append, starts_with_of_eq}
use Rattle.std.specs.Io.KnownBytes.{Appends, Consumes}
use Rattle.desk_journal.specs.Words.{StandsFor}
use Rattle.program_streams.specs.Words.{AppendsFront}
use Rattle.desk_session.specs.Taken.{left_by, told_to}
use Rattle.desk_session.specs.Served.{IsPromised, IsServed}
use Rattle.desk_session.proofs.TakenLemmas.{none_left, told_to-nil, told_to-append, all_left}

module _ (leaves : List (List ℕ) → List ℕ → List (List ℕ)) (answers : List (List ℕ) → List ℕ → List ℕ) where
  pub nothing_said : (before : Option (List ℕ)) (kept : List (List ℕ)) → AppendsFront before before (told_to leaves answers kept [])
  nothing_said before kept = ([], Appends-nil before, starts_with_of_append (told_to leaves answers kept []) [] (told_to leaves answers kept []) refl)

  -- nothing is written yet, and a crash leaves what none of the lines or all of them left
  pub unanswered : (kept lines : List (List ℕ)) (before : Option (List ℕ)) (HasWritten : Type 0) (MayLeave : List ℕ → Type 0)
      → ((file : List ℕ) → MayLeave file → StandsFor file kept ⊎ StandsFor file (kept ++ left_by leaves kept lines))
      → IsPromised leaves answers kept lines before before HasWritten MayLeave
  unanswered kept lines before HasWritten MayLeave either =
      record {
        told = 0;
        written = nothing_said before kept;
        whole = λ working. subst (Appends before before) (sym (told_to-nil leaves answers kept)) (Appends-nil before);
        lasts = λ file left. by file (either file left);
      }
    where
      by : (file : List ℕ) → StandsFor file kept ⊎ StandsFor file (kept ++ left_by leaves kept lines) → (n : ℕ) × (0 ≤ n) × StandsFor file (kept ++ left_by leaves kept (take n lines))
      by file (inl none) = (0, omega arith, subst (StandsFor file) (sym (none_left leaves answers kept)) none)
      by file (inr all) = (length lines, omega arith, subst (λ (l : List (List ℕ)). StandsFor file (kept ++ left_by leaves kept l)) (sym (take-length lines)) all)

  -- the lines are kept, and a beginning of their answers is written
  pub answered : (kept lines : List (List ℕ)) (before after : Option (List ℕ)) (HasWritten : Type 0) (MayLeave : List ℕ → Type 0)
      → AppendsFront before after (told_to leaves answers kept lines)
      → (HasWritten → Appends before after (told_to leaves answers kept lines))
      → ((file : List ℕ) → MayLeave file → StandsFor file (kept ++ left_by leaves kept lines))
      → IsPromised leaves answers kept lines before after HasWritten MayLeave
  answered kept lines before after HasWritten MayLeave written whole lasts =
      record {
        told = length lines;
        whole = λ working. subst (λ (l : List (List ℕ)). Appends before after (told_to leaves answers kept l)) (sym (take-length lines)) (whole working);
        written = subst (λ (l : List (List ℕ)). AppendsFront before after (told_to leaves answers kept l)) (sym (take-length lines)) written;
        lasts = λ file left. (length lines, omega arith, subst (λ (l : List (List ℕ)). StandsFor file (kept ++ left_by leaves kept l)) (sym (take-length lines)) (lasts file left));
      }

  -- the whole of a text, as a beginning of it
  pub whole_front : (before after : Option (List ℕ)) (text : List ℕ) → Appends before after text → AppendsFront before after text
  whole_front before after text written = (text, written, starts_with_of_eq text text refl)

  -- the answers to the lines of an input, where these are served
  pub all_told : (Keeps Stands : List (List ℕ) → Type 0) (kept : List (List ℕ)) (lines : List ℕ → List (List ℕ)) (before after input : Option (List ℕ))
      → IfSome input (λ bytes. IsServed leaves answers Keeps Stands kept (lines bytes) before after) → IfSome input (λ bytes. Appends before after (told_to leaves answers kept (lines bytes)))
  all_told Keeps Stands kept lines before after None served = tt
  all_told Keeps Stands kept lines before after (Some bytes) served = served.told

  -- a beginning of the answers to lines, where what is promised of them is kept
  pub front_of_all : (kept lines : List (List ℕ)) (before after : Option (List ℕ)) (HasWritten : Type 0) (MayLeave : List ℕ → Type 0) → IsPromised leaves answers kept lines before after HasWritten MayLeave → AppendsFront before after (told_to leaves answers kept lines)
  front_of_all kept lines before after HasWritten MayLeave promised =
      let (front, written, starts) = promised.written in
      (front, written, starts_with_of_append _ _ _ (all ∙ ap (λ (l : List ℕ). l ++ later) (starts_with_rest _ _ starts) ∙ append_assoc front _ later))
    where
      some : List (List ℕ)
      some = take promised.told lines

      rest : List (List ℕ)
      rest = drop promised.told lines

      later : List ℕ
      later = told_to leaves answers (kept ++ left_by leaves kept some) rest

      all : told_to leaves answers kept lines ≡ told_to leaves answers kept some ++ later
      all = ap (told_to leaves answers kept) (sym (take-append-drop promised.told lines)) ∙ told_to-append leaves answers kept some rest

  -- no line is served yet
  pub none_served : (Keeps Stands : List (List ℕ) → Type 0) (kept : List (List ℕ)) (before : Option (List ℕ)) → Keeps kept → Stands kept → IsServed leaves answers Keeps Stands kept [] before before
  none_served Keeps Stands kept before keeps stands =
      record {
        keeps = subst Keeps (sym (none_left leaves answers kept)) keeps;
        stands = subst Stands (sym (none_left leaves answers kept)) stands;
        told = subst (Appends before before) (sym (told_to-nil leaves answers kept)) (Appends-nil before);
      }

  -- what is served is promised, where a crash leaves what is kept
  pub served_promised : (Keeps Stands : List (List ℕ) → Type 0) (HasWritten : Type 0) (MayLeave : List ℕ → Type 0) (kept lines : List (List ℕ)) (before after : Option (List ℕ))
      → ((entries : List (List ℕ)) → Keeps entries → (file : List ℕ) → MayLeave file → StandsFor file entries)
      → IsServed leaves answers Keeps Stands kept lines before after → IsPromised leaves answers kept lines before after HasWritten MayLeave
  served_promised Keeps Stands HasWritten MayLeave kept lines before after rest served =
      answered kept lines before after HasWritten MayLeave (whole_front before after (told_to leaves answers kept lines) served.told) (λ working. served.told) (rest (kept ++ left_by leaves kept lines) served.keeps)

  -- lines that are served, and then others
  pub served_more : (Keeps Stands KeepsThen StandsThen : List (List ℕ) → Type 0) (kept some more : List (List ℕ)) (before between after : Option (List ℕ))
      → IsServed leaves answers Keeps Stands kept some before between
      → IsServed leaves answers KeepsThen StandsThen (kept ++ left_by leaves kept some) more between after
      → IsServed leaves answers KeepsThen StandsThen kept (some ++ more) before after
  served_more Keeps Stands KeepsThen StandsThen kept some more before between after first second =
      record {
        keeps = subst KeepsThen (sym (all_left leaves answers kept some more)) second.keeps;
        stands = subst StandsThen (sym (all_left leaves answers kept some more)) second.stands;
        told = subst (Appends before after) (sym (told_to-append leaves answers kept some more)) (Appends-trans before between after _ _ first.told second.told);
      }

  -- lines that are served, and then others that are promised
  pub promised_more : (Keeps Stands : List (List ℕ) → Type 0) (HasWritten : Type 0) (MayLeave : List ℕ → Type 0) (kept some more : List (List ℕ)) (before between after : Option (List ℕ))
      → IsServed leaves answers Keeps Stands kept some before between
      → IsPromised leaves answers (kept ++ left_by leaves kept some) more between after HasWritten MayLeave
      → IsPromised leaves answers kept (some ++ more) before after HasWritten MayLeave
  promised_more Keeps Stands HasWritten MayLeave kept some more before between after first second =
      record {
        told = length some + second.told;
        written = (
          told_to leaves answers kept some ++ second.written.0,
          Appends-trans before between after _ _ first.told second.written.1,
          starts_with_of_append _ _ _ (said second.told ∙ ap (λ (l : List ℕ). told_to leaves answers kept some ++ l) (starts_with_rest _ _ second.written.2) ∙ sym (append_assoc (told_to leaves answers kept some) second.written.0 _)),
        );
        whole = λ working. subst (Appends before after) (sym (said second.told)) (Appends-trans before between after _ _ first.told (second.whole working));
        lasts = λ file left. let (n, later, stands) = second.lasts file left in
            (length some + n, omega (arith, later), subst (StandsFor file) (sym (all_of n)) stands);
      }
    where
      said : (n : ℕ) → told_to leaves answers kept (take (length some + n) (some ++ more)) ≡ told_to leaves answers kept some ++ told_to leaves answers (kept ++ left_by leaves kept some) (take n more)
      said n = ap (told_to leaves answers kept) (take-append-add some more n) ∙ told_to-append leaves answers kept some (take n more)

      all_of : (n : ℕ) → kept ++ left_by leaves kept (take (length some + n) (some ++ more)) ≡ (kept ++ left_by leaves kept some) ++ left_by leaves (kept ++ left_by leaves kept some) (take n more)
      all_of n = ap (λ (l : List (List ℕ)). kept ++ left_by leaves kept l) (take-append-add some more n) ∙ all_left leaves answers kept some (take n more)

-- a read that gave nothing
pub none_read : (a b c : Option (List ℕ)) (bytes buffer : List ℕ) (n : ℕ) → Consumes a b bytes → Consumes b c (take n buffer) → n ≡ 0 → Consumes a c bytes
none_read a b c bytes buffer n so_far last none =
    subst (Consumes a c) (ap (λ (m : ℕ). bytes ++ take m buffer) none ∙ append-nil bytes) (Consumes-trans a b c bytes (take n buffer) so_far last)

-- what is so of the bytes that were read is so of the input, where these are all of it
pub whole_input : (input : Option (List ℕ)) (IsSo : List ℕ → Type 0) (bytes : List ℕ) → IfSome input (λ all. bytes ≡ all) → IsSo bytes → IfSome input IsSo
whole_input None IsSo bytes all so = tt
whole_input (Some xs) IsSo bytes all so = subst IsSo all so
