-- What a command reads where the parts have some values: all that it reads, in its order, and with these values.
use Rattle.std.proofs.Common.{◌≡◌, ℕ, zero, suc, ◌+◌, ◌≤◌, Option, Some, None, is_some, List, [], ◌∷◌, ◌++◌, length, All, refl, ap, arith}
use Rattle.std.specs.Option.{option_map_or}
use Rattle.std.proofs.lemmas.List.{length-append}
use Rattle.std.proofs.lemmas.List.Elements.{All-nil, All-push}
use Rattle.versioned_steps.specs.Rules.{Rules, IsLawful, AreReadsOf, AreAllReadsOf}
use Rattle.versioned_steps.specs.History.{reads_from, reads_on}
use Rattle.versioned_steps.proofs.ReadLemmas.{AreReadAfter-push}

module _ {Part Value Command Answer : Type 0} (r : Rules Part Value Command Answer) where
  -- each read has the value that its part has among these
  abbrev pub AreOf : (Part → Value) → List (Part × Value) → Type 0
  AreOf values reads = All (λ x. x.1 ≡ values x.0) reads

  abbrev IsWhole : (Part → Value) → Command → List (Part × Value) → Type 0
  IsWhole values command reads = AreAllReadsOf r command reads × AreOf values reads

  whole_from : IsLawful r → (values : Part → Value) (command : Command) (fuel : ℕ) (before : List (Part × Value)) → AreReadsOf r command before → AreOf values before → r.most_reads ≤ fuel + length before
      → IsWhole values command (reads_from r fuel values command before)
  unfolding reads_from
  whole_from laws values command zero before in_order same most = (record { in_order = in_order; ended = ended (r.next_part command before) refl }, same) where
    ended : (next : Option Part) → r.next_part command before ≡ next → r.next_part command before ≡ None
    ended None is = is
    ended (Some part) is = absurd (omega (arith, laws.reading_ends command before in_order (ap is_some is), most))
  whole_from laws values command (suc n) before in_order same most =
      by (r.next_part command before) refl (λ part is.
      whole_from laws values command n (before ++ (part, values part) ∷ [])
      (AreReadAfter-push r command [] before (part, values part) in_order is)
      (All-push (λ (x : Part × Value). x.1 ≡ values x.0) before (part, values part) same refl)
      (omega (arith, most, length-append before ((part, values part) ∷ [])))) where
        by : (next : Option Part) → r.next_part command before ≡ next → ((part : Part) → r.next_part command before ≡ Some part → IsWhole values command (reads_from r n values command (before ++ (part, values part) ∷ []))) → IsWhole values command (option_map_or (λ part. reads_from r n values command (before ++ (part, values part) ∷ [])) next before)
        by None is more = (record { in_order = in_order; ended = is }, same)
        by (Some part) is more = more part is

  pub reads_whole : IsLawful r → (values : Part → Value) (command : Command) → AreAllReadsOf r command (reads_on r values command) × AreOf values (reads_on r values command)
  reads_whole laws values command = whole_from laws values command r.most_reads [] tt (All-nil _) (omega arith)
