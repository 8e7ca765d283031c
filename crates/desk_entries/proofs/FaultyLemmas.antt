-- What is wrong with entries.
use Rattle.std.proofs.Common.{◌≡◌, ◌∙◌, ◌+◌, ◌<◌, ◌⊎◌, ℕ, List, [], ◌∷◌, ◌++◌, Option, Some, Err, length, length-append, refl, sym, ap, subst, append_assoc, arith}
use Rattle.std.specs.Prelude.{Vec, slice_get}
use Rattle.std.specs.declared.alloc.Global.{Global}
use Rattle.desk_journal.specs.Words.{batch_of}
use Rattle.court_days.specs.Words.{desk_court_in}
use Rattle.desk_entries.specs.declared.fault.HistoryFault.{HistoryFault}
use Rattle.desk_entries.specs.declared.fault.HistoryFault.TheVariants.{Court, NoCourt, Other, OutOfMemory, Strike}
use Rattle.desk_entries.specs.Docketed.{AreHistory, CannotBe, HasFault, IsBadFile, IsBadNote, IsFaultyEntry, SaysOthers}
use Rattle.desk_register.specs.Words.{Note, court_file, file_after, note_in}
use Rattle.desk_register.proofs.CallerLemmas.{standing_file-file}

-- a faulty entry makes entries faulty that begin with those before it
pub faulty_so : (So : List (List ℕ) → Type 0) (before after : List (List ℕ)) (entry : List ℕ) (fault : HistoryFault) → So before → IsFaultyEntry before entry fault → HasFault So (before ++ entry ∷ after) fault
faulty_so So before after entry NoCourt so faulty = absurd faulty
faulty_so So before after entry (Court n cause) so faulty = record { before = before; entry = entry; after = after; parts = refl; so = so; faulty = faulty }
faulty_so So before after entry (Strike n) so faulty = record { before = before; entry = entry; after = after; parts = refl; so = so; faulty = faulty }
faulty_so So before after entry (Other n) so faulty = record { before = before; entry = entry; after = after; parts = refl; so = so; faulty = faulty }
faulty_so So before after entry OutOfMemory so faulty = tt

-- what is wrong with the first entries is wrong with all
pub fault_in_more : (So : List (List ℕ) → Type 0) (some more : List (List ℕ)) (fault : HistoryFault) → 0 < length some → HasFault So some fault → HasFault So (some ++ more) fault
fault_in_more So [] more fault begun has = absurd (omega (arith, begun))
fault_in_more So (first ∷ some) more NoCourt begun has = cc has
fault_in_more So (first ∷ some) more (Court n cause) begun has = record {
  before = has.before;
  entry = has.entry;
  after = has.after ++ more;
  parts = ap (λ (l : List (List ℕ)). l ++ more) has.parts ∙ append_assoc has.before (has.entry ∷ has.after) more;
  so = has.so;
  faulty = has.faulty;
}
fault_in_more So (first ∷ some) more (Strike n) begun has = record {
  before = has.before;
  entry = has.entry;
  after = has.after ++ more;
  parts = ap (λ (l : List (List ℕ)). l ++ more) has.parts ∙ append_assoc has.before (has.entry ∷ has.after) more;
  so = has.so;
  faulty = has.faulty;
}
fault_in_more So (first ∷ some) more (Other n) begun has = record {
  before = has.before;
  entry = has.entry;
  after = has.after ++ more;
  parts = ap (λ (l : List (List ℕ)). l ++ more) has.parts ∙ append_assoc has.before (has.entry ∷ has.after) more;
  so = has.so;
  faulty = has.faulty;
}
fault_in_more So (first ∷ some) more OutOfMemory begun has = tt

-- a file that is bad makes its entry faulty
pub bad_file : (before : List (List ℕ)) (entry later : List ℕ) (number : ℕ) (fault : HistoryFault) → 0 < length before → note_in entry ≡ Some (court_file later) → number ≡ length before + 1 → IsBadFile later number fault
    → IsFaultyEntry before entry fault
bad_file before entry later number NoCourt begun some counted bad = absurd bad
bad_file before entry later number (Court n cause) begun some counted bad = (
  bad.0 ∙ counted,
  subst (λ (f : List ℕ). desk_court_in f ≡ Err cause) (sym (standing_file-file before entry later begun some)) bad.1,
)
bad_file before entry later number (Strike n) begun some counted bad = absurd bad
bad_file before entry later number (Other n) begun some counted bad = absurd bad
bad_file before entry later number OutOfMemory begun some counted bad = tt

-- the first file
bad_first : (first : List ℕ) (fault : HistoryFault) → IsBadFile first 1 fault → IsFaultyEntry [] first fault
unfolding file_after
bad_first first NoCourt bad = absurd bad
bad_first first (Court n cause) bad = (bad.0, bad.1)
bad_first first (Strike n) bad = absurd bad
bad_first first (Other n) bad = absurd bad
bad_first first OutOfMemory bad = tt

pub bad_first_of : (So : List (List ℕ) → Type 0) (entries : List (Vec ℕ Global)) (first : Vec ℕ Global) (fault : HistoryFault) → So [] → slice_get entries 0 ≡ Some first → IsBadFile first.items 1 fault → HasFault So (batch_of entries) fault
bad_first_of So [] first fault so is bad = cc is
bad_first_of So (entry ∷ entries) first fault so is bad =
    let same : first ≡ entry = cc is in
    faulty_so So [] (batch_of entries) entry.items fault so (bad_first entry.items fault (subst (λ (v : Vec ℕ Global). IsBadFile v.items 1 fault) same bad))

-- nothing is a history, if there are any
pub none_are_history : AreHistory []
none_are_history begun = absurd (omega (arith, begun))

-- a note that can't be, or says other numbers
pub bad_note : (before : List (List ℕ)) (entry : List ℕ) (note : Note) (number : ℕ) → note_in entry ≡ Some note → number ≡ length (before ++ entry ∷ []) → CannotBe note before ⊎ SaysOthers before entry → IsFaultyEntry before entry (Strike number)
bad_note before entry note number some counted bad = (
  counted ∙ length-append before (entry ∷ []),
  subst (λ (n : Option Note). IsBadNote n before entry) (sym some) bad,
)
