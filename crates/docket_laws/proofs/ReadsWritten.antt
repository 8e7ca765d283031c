-- What is written on the parts that were read.
use Rattle.std.proofs.Common.{◌≡◌, true, false, is_none, List, [], ◌∷◌, Contains, All, Option, Some, None, option_map, refl, ap, sym, ◌∙◌, inl, inr}
use Rattle.std.specs.List.{AllByRecursion, IsDistinct, filter_map, cons_option}
use Rattle.std.proofs.lemmas.Bool.{cases_Bool, false≢true, or_parts}
use Rattle.std.proofs.lemmas.List.Elements.{All-from_recursion, recursion_from_All, All-contains_itself, All-nil}
use Rattle.docket_rows.specs.declared.command.Command.{Command}
use Rattle.docket_rows.specs.declared.part.PartId.{PartId}
use Rattle.docket_rows.specs.declared.part.PartValue.{PartValue}
use Rattle.docket_rows.specs.Words.{CourtSetup, same_part, parts_read, is_read, refusal, changed, written_on}
use Rattle.docket_laws.specs.Reads.{parts_in, WereRead, value_written}
use Rattle.docket_laws.proofs.ReadsParts.{parts_equal}
use Rattle.docket_laws.proofs.ReadsEnd.{read_once}

-- the parts of these reads for which there is a new value, with it
abbrev pub values_given : (PartId → Option PartValue) → List (PartId × PartValue) → List (PartId × PartValue)
values_given given reads = filter_map (λ (r : PartId × PartValue). option_map (λ v. (r.0, v)) (given r.0)) reads

module _ (given : PartId → Option PartValue) where
  -- what holds of the parts that were read holds of those that are written
  kept : (P : PartId → Type 0) (reads : List (PartId × PartValue)) → AllByRecursion P (parts_in reads) → AllByRecursion P (parts_in (values_given given reads))
  kept P [] h = tt
  kept P (r ∷ rs) h = more (given r.0) (kept P rs h.1) where
    more : (found : Option PartValue) → AllByRecursion P (parts_in (values_given given rs)) → AllByRecursion P (parts_in (cons_option (option_map (λ v. (r.0, v)) found) (values_given given rs)))
    more None rest = rest
    more (Some v) rest = (h.0, rest)

  once : (reads : List (PartId × PartValue)) → IsDistinct same_part (parts_in reads) → IsDistinct same_part (parts_in (values_given given reads))
  unfolding IsDistinct
  once [] h = tt
  once (r ∷ rs) h = more (given r.0) (once rs h.1) where
    more : (found : Option PartValue) → IsDistinct same_part (parts_in (values_given given rs)) → IsDistinct same_part (parts_in (cons_option (option_map (λ v. (r.0, v)) found) (values_given given rs)))
    more None rest = rest
    more (Some v) rest = (kept (λ part. same_part r.0 part ≡ false) rs h.0, rest)

  -- a read of another part writes nothing for the part
  passed : (part : PartId) (r : PartId × PartValue) (found : Option PartValue) (rest : List (PartId × PartValue)) → same_part part r.0 ≡ false → value_written (cons_option (option_map (λ v. (r.0, v)) found) rest) part ≡ value_written rest part
  passed part r None rest other = refl
  passed part r (Some v) rest other = rw other refl

  none_given : (part : PartId) → given part ≡ None → (reads : List (PartId × PartValue)) → value_written (values_given given reads) part ≡ None
  none_given part none [] = refl
  none_given part none (r ∷ rs) = elim (cases_Bool (same_part part r.0)) [
    | inl same ↦
        let here : given r.0 ≡ None = sym (ap given (parts_equal part r.0 same)) ∙ none in
        rw here (none_given part none rs)
    | inr other ↦ passed part r (given r.0) (values_given given rs) other ∙ none_given part none rs
  ]

  some_given : (part : PartId) (v : PartValue) → given part ≡ Some v → (reads : List (PartId × PartValue)) → is_read reads part ≡ true → value_written (values_given given reads) part ≡ Some v
  some_given part v some [] read = absurd (false≢true read)
  some_given part v some (r ∷ rs) read = elim (cases_Bool (same_part part r.0)) [
    | inl same ↦
        let here : given r.0 ≡ Some v = sym (ap given (parts_equal part r.0 same)) ∙ some in
        rw (here, same) refl
    | inr other ↦ passed part r (given r.0) (values_given given rs) other ∙ some_given part v some rs (rw other at read)
  ]

  -- the value written for a part that was read, and for another
  pub given_read : (reads : List (PartId × PartValue)) (part : PartId) → is_read reads part ≡ true → value_written (values_given given reads) part ≡ given part
  given_read reads part read = by (given part) refl where
    by : (found : Option PartValue) → given part ≡ found → value_written (values_given given reads) part ≡ found
    by None none = none_given part none reads
    by (Some v) some = some_given part v some reads read

  pub given_other : (reads : List (PartId × PartValue)) (part : PartId) → is_read reads part ≡ false → value_written (values_given given reads) part ≡ None
  given_other [] part other = refl
  given_other (r ∷ rs) part other =
      let both = or_parts _ _ other in
      passed part r (given r.0) (values_given given rs) both.0 ∙ given_other rs part both.1

-- The parts written are among those read, each once.
pub written_read : (setup : CourtSetup) (command : Command) (reads : List (PartId × PartValue)) → All (Contains (parts_in reads)) (parts_in (written_on setup command reads))
unfolding written_on
written_read setup command reads = elim (cases_Bool (is_none (refusal setup (parts_read setup reads) command))) [
  | inl made ↦
      rw made (All-from_recursion (Contains (parts_in reads)) _ (kept (changed (parts_read setup reads) command) (Contains (parts_in reads)) reads (recursion_from_All (Contains (parts_in reads)) (parts_in reads) (All-contains_itself (parts_in reads)))))
  | inr refused ↦ rw refused (All-nil (Contains (parts_in reads)))
]

pub written_once : (setup : CourtSetup) (command : Command) (reads : List (PartId × PartValue)) → WereRead setup command reads → IsDistinct same_part (parts_in (written_on setup command reads))
unfolding written_on IsDistinct
written_once setup command reads were = elim (cases_Bool (is_none (refusal setup (parts_read setup reads) command))) [
  | inl made ↦ rw made (once (changed (parts_read setup reads) command) reads (read_once setup command reads were))
  | inr refused ↦ rw refused tt
]
