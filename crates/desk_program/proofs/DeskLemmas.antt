-- What a docket's desk keeps and promises.
use Rattle.std.proofs.Common.{◌≡◌, ◌⊎◌, inl, inr, ℕ, List, [], ◌∷◌, ◌++◌, Bool, true, false, IfSome, None, Ok, Option, Some, length, take, refl, sym, arith, subst}
use Rattle.std.specs.Prelude.{Vec}
use Rattle.std.specs.declared.alloc.Global.{Global}
use Rattle.std.proofs.Transfers.{starts_with_of_eq}
use Rattle.sqlite_disk.specs.declared.Disk as disk
use Rattle.desk_journal.specs.Words.{IsKept, StandsFor, batch_of}
use Rattle.desk_journal.proofs.CallerLemmas.{one_list, rest_kept}
use Rattle.desk_session.proofs.CallerLemmas.{answered, unanswered}
use Rattle.desk_session.specs.Words.{IsAllOrNone, IsPromised, IsServed, left_by, lines_of, told_to, unfinished_of}
use Rattle.desk_numbers.specs.declared.said.Said.{Said}
use Rattle.desk_register.specs.declared.standing.Standing.{Standing}
use Rattle.desk_entries.specs.Words.{IsDocketed, IsHistory, IsReadyAt, StandsAfter, later_file}
use Rattle.desk_entries.proofs.CallerLemmas.{left_docketed}
use Rattle.desk_warnings.specs.Words.{lines_taken}
use Rattle.desk_warnings.proofs.CallerLemmas.{careful_history, keep_nothing}
use Rattle.program_streams.specs.declared.watched.Watched.{Watched}
use Rattle.program_streams.specs.Words.{AppendsFront, IsGiven, has_failed, watched}
use Rattle.desk_program.specs.declared.desk.Desk.{Desk}
use Rattle.desk_program.specs.declared.row_correction.RowCorrection.{RowCorrection}
use Rattle.desk_program.specs.declared.row_correction.RowNote.{RowNote}
use Rattle.desk_program.specs.Desk.{IsPromisedDocket, KeepsDocket, answers_at, disk_under, docketed_at, held_at, leaves_at, standing_at}
use Rattle.desk_program.specs.RowCorrection.{note_entry, note_for}
use Rattle.desk_program.specs.Together.{IsDocketAllOrNone, KeepsTogether, faults_in, stop_of}

-- a writer that was given a text has taken a beginning of it
given_front : {W : Type 0} (contents : W → Option (List ℕ)) (old new : Watched W) (text : List ℕ) → IsGiven contents old new text → (failed : Bool) → has_failed new ≡ failed → AppendsFront (contents (watched old)) (contents (watched new)) text
given_front contents old new text given true is = given.front is
given_front contents old new text given false is = (text, given.whole is, starts_with_of_eq text text refl)

module _ {D : Type 0} (g : disk.Ghosts D) (before after : Desk D) (kept : List (List ℕ)) where
  -- what a docket comes to after lines
  docketed_after : KeepsDocket g kept before → standing_at after ≡ standing_at before → (lines : List (List ℕ))
      → IsReadyAt (standing_at before) after.careful.register (kept ++ left_by (leaves_at before) kept lines)
      → IsDocketed (docketed_at after) (kept ++ left_by (leaves_at before) kept lines)
  docketed_after keeps same lines stands =
      let is = keep_nothing (standing_at before) (held_at before) kept lines in
      subst (λ (l : List (List ℕ)). IsDocketed (docketed_at after) (kept ++ l)) (sym is)
      (left_docketed (docketed_at before) (docketed_at after) kept (lines_taken (standing_at before) (held_at before) kept lines) keeps.docketed same
      (subst (λ (l : List (List ℕ)). IsReadyAt (standing_at before) after.careful.register (kept ++ l)) is stands))

  -- lines that are served, of a docket
  pub served_docket : KeepsDocket g kept before → standing_at after ≡ standing_at before → (lines : List (List ℕ)) (old new : Option (List ℕ))
      → IsServed (leaves_at before) (answers_at before) (λ entries. IsKept g entries after.journal) (IsReadyAt (standing_at before) after.careful.register) kept lines old new
      → IsServed (leaves_at before) (answers_at before) (λ entries. KeepsDocket g entries after) (λ entries. standing_at after ≡ standing_at before) kept lines old new
  served_docket keeps same lines old new served = record {
    keeps = record { kept = served.keeps; docketed = docketed_after keeps same lines served.stands };
    stands = same;
    told = served.told;
  }

  -- the same of an input that is kept together
  pub kept_together : KeepsDocket g kept before → standing_at after ≡ standing_at before → (keep_refused : Bool) (input : List ℕ) (old new : Option (List ℕ))
      → faults_in (standing_at before) (held_at before) kept input ≡ [] → unfinished_of input ≡ [] → stop_of (standing_at before) (held_at before) keep_refused kept input ≡ None
      → IsServed (leaves_at before) (answers_at before) (λ entries. IsKept g entries after.journal) (IsReadyAt (standing_at before) after.careful.register) kept (lines_of input) old new
      → KeepsTogether (standing_at before) (held_at before) keep_refused kept input old new (λ entries. KeepsDocket g entries after)
  kept_together keeps same keep_refused input old new faultless finished unstopped served =
      let all = served_docket keeps same (lines_of input) old new served in
      record { faultless = faultless; finished = finished; unstopped = unstopped; keeps = all.keeps; told = all.told }

  -- lines that are promised, of a docket
  pub promised_docket : KeepsDocket g kept before → (lines : List (List ℕ)) (old new : Option (List ℕ)) (HasWritten : Type 0) (MayLeave : List ℕ → Type 0)
      → IsPromised (leaves_at before) (answers_at before) kept lines old new HasWritten MayLeave
      → IsPromisedDocket (standing_at before) (held_at before) kept lines old new HasWritten MayLeave
  promised_docket keeps lines old new HasWritten MayLeave promised = record {
    promised = promised;
    opens = λ file may.
        let (n, later, stands) = promised.lasts file may in
        let both = careful_history (standing_at before) (held_at before) kept (take n lines) keeps.docketed.stands.at.begun keeps.docketed.standing in
        (kept ++ left_by (leaves_at before) kept (take n lines), stands, both.0, both.1);
  }

  -- and where nothing was done
  pub none_promised : KeepsDocket g kept before → (lines : List (List ℕ)) (old : Option (List ℕ)) (HasWritten : Type 0)
      → IsPromisedDocket (standing_at before) (held_at before) kept lines old old HasWritten (g.may_leave (disk_under before))
  none_promised keeps lines old HasWritten =
      promised_docket keeps lines old old HasWritten (g.may_leave (disk_under before))
      (unanswered (leaves_at before) (answers_at before) kept lines old HasWritten (g.may_leave (disk_under before)) (λ file may. inl (rest_kept g before.journal kept keeps.kept file may)))

  -- lines that are kept together, of a docket
  pub all_or_none_docket : KeepsDocket g kept before → (lines : List (List ℕ)) (MayLeave : List ℕ → Type 0)
      → IsAllOrNone (leaves_at before) kept lines MayLeave → IsDocketAllOrNone (standing_at before) (held_at before) kept lines MayLeave
  all_or_none_docket keeps lines MayLeave either = record { all_or_none = either; opens = λ file may. by file (either file may) }
    where
      by : (file : List ℕ) → StandsFor file kept ⊎ StandsFor file (kept ++ left_by (leaves_at before) kept lines) → (entries : List (List ℕ)) × StandsFor file entries × StandsAfter entries (standing_at before) × (IsHistory kept → IsHistory entries)
      by file (inl stands) = (kept, stands, keeps.docketed.standing, λ history. history)
      by file (inr stands) =
          let both = careful_history (standing_at before) (held_at before) kept lines keeps.docketed.stands.at.begun keeps.docketed.standing in
          (kept ++ left_by (leaves_at before) kept lines, stands, both.0, both.1)

  -- and where nothing was done
  pub none_docket : KeepsDocket g kept before → (lines : List (List ℕ)) → IsDocketAllOrNone (standing_at before) (held_at before) kept lines (g.may_leave (disk_under before))
  none_docket keeps lines =
      all_or_none_docket keeps lines (g.may_leave (disk_under before)) (λ file may. inl (rest_kept g before.journal kept keeps.kept file may))

  -- lines that are kept together, of which none is answered
  pub unanswered_docket : (lines : List (List ℕ)) (old : Option (List ℕ)) (HasWritten : Type 0) (MayLeave : List ℕ → Type 0)
      → IsDocketAllOrNone (standing_at before) (held_at before) kept lines MayLeave → IsPromisedDocket (standing_at before) (held_at before) kept lines old old HasWritten MayLeave
  unanswered_docket lines old HasWritten MayLeave either = record {
    promised = unanswered (leaves_at before) (answers_at before) kept lines old HasWritten MayLeave either.all_or_none;
    opens = either.opens;
  }

  -- lines that are kept, where a writer was given their answers
  pub answered_docket : KeepsDocket g kept before → (lines : List (List ℕ)) → KeepsDocket g (kept ++ left_by (leaves_at before) kept lines) after → {W : Type 0} (contents : W → Option (List ℕ)) (old new : Watched W)
      → IsGiven contents old new (told_to (leaves_at before) (answers_at before) kept lines)
      → IsPromisedDocket (standing_at before) (held_at before) kept lines (contents (watched old)) (contents (watched new)) (has_failed new ≡ false) (g.may_leave (disk_under after))
  answered_docket keeps lines all contents old new given =
      promised_docket keeps lines (contents (watched old)) (contents (watched new)) (has_failed new ≡ false) (g.may_leave (disk_under after))
      (answered (leaves_at before) (answers_at before) kept lines (contents (watched old)) (contents (watched new)) (has_failed new ≡ false) (g.may_leave (disk_under after))
      (given_front contents old new (told_to (leaves_at before) (answers_at before) kept lines) given (has_failed new) refl) given.whole
      (λ file may. rest_kept g after.journal (kept ++ left_by (leaves_at before) kept lines) all.kept file may))

-- the entries that were found are those for which the file stood
pub same_entries : (file c : List ℕ) (found entries : List (List ℕ)) → StandsFor file found → StandsFor file entries → StandsFor c found → StandsFor c entries
same_entries file c found entries is stood stands = subst (StandsFor c) (one_list file found entries is stood) stands

-- what follows of a value, if there is one
pub some_weaker : {A : Type 0} (x : Option A) (P Q : A → Type 0) → ((a : A) → P a → Q a) → IfSome x P → IfSome x Q
some_weaker None P Q more h = tt
some_weaker (Some a) P Q more h = more a h

pub some_both : {A : Type 0} (x : Option A) (P Q S : A → Type 0) → ((a : A) → P a → Q a → S a) → IfSome x P → IfSome x Q → IfSome x S
some_both None P Q S more h i = tt
some_both (Some a) P Q S more h i = more a h i

-- there are no entries
pub no_entries : (entries : List (Vec ℕ Global)) → 0 ≡ length entries → batch_of entries ≡ []
no_entries [] h = refl
no_entries (entry ∷ entries) h = absurd (omega (arith, h))

-- what is appended is one entry
pub one_more : (c : List ℕ) (entries batch : List (List ℕ)) (entry : List ℕ) → batch ≡ entry ∷ [] → StandsFor c entries ⊎ StandsFor c (entries ++ batch) → StandsFor c entries ⊎ StandsFor c (entries ++ entry ∷ [])
one_more c entries batch entry is (inl stands) = inl stands
one_more c entries batch entry is (inr stands) = inr (subst (λ (b : List (List ℕ)). StandsFor c (entries ++ b)) is stands)

-- which is a court's file
pub one_file : (c : List ℕ) (entries : List (List ℕ)) (file entry : List ℕ) → later_file entry ≡ Some file → StandsFor c entries ⊎ StandsFor c (entries ++ entry ∷ [])
    → StandsFor c entries ⊎ ((e : List ℕ) × (later_file e ≡ Some file) × StandsFor c (entries ++ e ∷ []))
one_file c entries file entry says (inl stands) = inl stands
one_file c entries file entry says (inr stands) = inr (entry, says, stands)

-- what is appended is a strike, or a restore
pub one_note : (c : List ℕ) (done : RowCorrection) (under : Standing) (entries : List (List ℕ)) (row : ℕ) (note : RowNote) (said : List Said) (remark : List ℕ) → note_for done under entries row ≡ Ok note → StandsFor c entries ⊎ StandsFor c (entries ++ note_entry note said remark ∷ [])
    → StandsFor c entries ⊎ ((n : RowNote) × (note_for done under entries row ≡ Ok n) × StandsFor c (entries ++ note_entry n said remark ∷ []))
one_note c done under entries row note said remark is (inl stands) = inl stands
one_note c done under entries row note said remark is (inr stands) = inr (note, is, stands)

-- what is appended is a docket's first court's file
pub first_file : (c : List ℕ) (entries batch : List (List ℕ)) (file : List ℕ) → entries ≡ [] → batch ≡ file ∷ [] → StandsFor c [] ⊎ StandsFor c ([] ++ batch)
    → StandsFor c entries ⊎ ((entries ≡ []) × StandsFor c (file ∷ []))
first_file c entries batch file none is (inl stands) = inl (subst (StandsFor c) (sym none) stands)
first_file c entries batch file none is (inr stands) = inr (none, subst (StandsFor c) is stands)
