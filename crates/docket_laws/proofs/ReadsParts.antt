-- The names of parts, and which of them were read.
use Rattle.std.proofs.Common.{◌≡◌, true, false, not, List, [], ◌∷◌, All, Some, None, refl, ap, sym, ◌∙◌, inl, inr}
use Rattle.std.specs.Cmp.{IsEquivalence}
use Rattle.std.specs.List.{list_any}
use Rattle.std.proofs.lemmas.Bool.{cases_Bool, false≢true, eqb-true, not-false}
use Rattle.std.proofs.lemmas.List.Elements.{All-head, All-tail}
use Rattle.std.proofs.lemmas.Cmp.{nat_eq_equiv}
use Rattle.hearing_slots.proofs.CallerLemmas.{find-None}
use Rattle.docket_rows.specs.declared.command.Command.{Command}
use Rattle.docket_rows.specs.declared.part.PartId.{PartId}
use Rattle.docket_rows.specs.declared.part.PartId.TheVariants.{Court, Judge, Room, Case}
use Rattle.docket_rows.specs.declared.part.PartValue.{PartValue}
use Rattle.docket_rows.specs.Words.{CourtSetup, Parts, same_part, part_value, read_of, parts_read, wanted, is_read, next_part}
use Rattle.docket_laws.specs.Reads.{AreValuesOf, is_wanted}

-- the test says whether two names are the same
pub parts_equal : (x y : PartId) → same_part x y ≡ true → x ≡ y
parts_equal Court Court h = refl
parts_equal Court (Judge k) h = absurd (false≢true h)
parts_equal Court (Room s) h = absurd (false≢true h)
parts_equal Court (Case d) h = absurd (false≢true h)
parts_equal (Judge j) Court h = absurd (false≢true h)
parts_equal (Judge j) (Judge k) h = ap Judge (eqb-true j k h)
parts_equal (Judge j) (Room s) h = absurd (false≢true h)
parts_equal (Judge j) (Case d) h = absurd (false≢true h)
parts_equal (Room r) Court h = absurd (false≢true h)
parts_equal (Room r) (Judge k) h = absurd (false≢true h)
parts_equal (Room r) (Room s) h = ap Room (eqb-true r s h)
parts_equal (Room r) (Case d) h = absurd (false≢true h)
parts_equal (Case c) Court h = absurd (false≢true h)
parts_equal (Case c) (Judge k) h = absurd (false≢true h)
parts_equal (Case c) (Room s) h = absurd (false≢true h)
parts_equal (Case c) (Case d) h = ap Case (eqb-true c d h)

pub part_itself : (x : PartId) → same_part x x ≡ true
part_itself Court = refl
part_itself (Judge j) = nat_eq_equiv.refl j
part_itself (Room r) = nat_eq_equiv.refl r
part_itself (Case c) = nat_eq_equiv.refl c

pub part_flip : (x y : PartId) → same_part x y ≡ same_part y x
part_flip x y = elim (cases_Bool (same_part x y)) [
  | inl same ↦ (let e = parts_equal x y same in rw e refl)
  | inr differ ↦ elim (cases_Bool (same_part y x)) [
    | inl same ↦ (let e = parts_equal y x same in rw e refl)
    | inr too ↦ differ ∙ sym too
  ]
]

pub part_equivalence : IsEquivalence same_part
part_equivalence = record {
  refl = part_itself;
  symm = part_flip;
  congr = λ x y z same. ap (λ w. same_part w z) (parts_equal x y same);
}

-- where nothing is left to read, each part that is wanted was read
pub wanted_read : (setup : CourtSetup) (command : Command) (reads : List (PartId × PartValue)) → next_part setup command reads ≡ None → (part : PartId) → is_wanted setup (parts_read setup reads) command part ≡ true → is_read reads part ≡ true
unfolding next_part
wanted_read setup command reads ended part =
    each (wanted setup (parts_read setup reads) command) (find-None (λ (w : PartId). not (is_read reads w)) (wanted setup (parts_read setup reads) command) ended) where
      each : (parts : List PartId) → All (λ (w : PartId). not (is_read reads w) ≡ false) parts → list_any (same_part part) parts ≡ true → is_read reads part ≡ true
      each [] all among = absurd (false≢true among)
      each (w ∷ ws) all among = elim (cases_Bool (same_part part w)) [
        | inl same ↦
            let e = parts_equal part w same in
            rw e (not-false _ (All-head (λ (w : PartId). not (is_read reads w) ≡ false) w ws all))
        | inr other ↦ each ws (All-tail (λ (w : PartId). not (is_read reads w) ≡ false) w ws all) (rw other at among)
      ]

-- what was read of a part is what the parts hold, where each value read is
pub read_value : (parts : Parts) (reads : List (PartId × PartValue)) → AreValuesOf parts reads → (part : PartId) → is_read reads part ≡ true → read_of reads part ≡ Some (part_value parts part)
read_value parts [] values part read = absurd (false≢true read)
read_value parts (x ∷ xs) values part read = elim (cases_Bool (same_part part x.0)) [
  | inl same ↦
      let e = parts_equal part x.0 same in
      rw same (ap Some (All-head (λ (r : PartId × PartValue). r.1 ≡ part_value parts r.0) x xs values ∙ ap (part_value parts) (sym e)))
  | inr other ↦ rw other (read_value parts xs (All-tail (λ (r : PartId × PartValue). r.1 ≡ part_value parts r.0) x xs values) part (rw other at read))
]

-- so the parts that were read hold that
pub read_holds : (setup : CourtSetup) (parts : Parts) (reads : List (PartId × PartValue)) → AreValuesOf parts reads → (part : PartId) → is_read reads part ≡ true → part_value parts part ≡ part_value (parts_read setup reads) part
unfolding parts_read
read_holds setup parts reads values Court read = rw (read_value parts reads values Court read) refl
read_holds setup parts reads values (Judge j) read = rw (read_value parts reads values (Judge j) read) refl
read_holds setup parts reads values (Room r) read = rw (read_value parts reads values (Room r) read) refl
read_holds setup parts reads values (Case c) read = rw (read_value parts reads values (Case c) read) refl
