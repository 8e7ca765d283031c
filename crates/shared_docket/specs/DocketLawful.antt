-- The rules of a docket are lawful.
use Rattle.std.proofs.Common.{◌≡◌, ◌<◌, Option, Some, None, IsSome, List, [], ◌∷◌, ◌++◌, length, refl}
use Rattle.std.proofs.lemmas.Bool.{false≢true}
use Rattle.docket_rows.specs.declared.command.Command.{Command}
use Rattle.docket_rows.specs.contracts.part.PartIdPartialEq.TheImpl as part_test
use Rattle.docket_rows.specs.declared.part.PartId.{PartId}
use Rattle.docket_rows.specs.declared.part.PartId.TheVariants.{Court, Judge, Room, Case}
use Rattle.docket_rows.specs.declared.part.PartValue.{PartValue}
use Rattle.docket_rows.specs.Words.{CourtSetup, next_part}
use Rattle.docket_laws.specs.Words.{WereReadAfter, WereRead, most_reads}
use Rattle.docket_laws.proofs.CallerLemmas.{parts_equal, part_itself, reading_ends, written_read, written_once}
use Rattle.versioned_steps.specs.Words.{AreReadAfter, IsLawful}
use Rattle.shared_docket.specs.DocketRules.{docket_rules}
use Rattle.shared_docket.specs.AnswersLawful.{answers_equal, answer_itself}

module _ (setup : CourtSetup) (command : Command) where
  were_read : (before reads : List (PartId × PartValue)) → AreReadAfter (docket_rules setup) command before reads → WereReadAfter setup command before reads
  unfolding docket_rules
  were_read before [] h = tt
  were_read before (x ∷ xs) h = (h.0, were_read (before ++ x ∷ []) xs h.1)

  ends : (reads : List (PartId × PartValue)) (next : Option PartId) → next_part setup command reads ≡ next → WereRead setup command reads → IsSome next → length reads < most_reads setup
  ends reads None is were some = absurd (false≢true some)
  ends reads (Some part) is were some = reading_ends setup command reads part were is

pub docket_lawful : (setup : CourtSetup) → IsLawful (docket_rules setup)
unfolding docket_rules
docket_lawful setup = record {
  parts_equal = parts_equal;
  part_itself = part_itself;
  answers_equal = answers_equal;
  answer_itself = answer_itself;
  reading_ends = λ command reads in_order some. ends setup command reads (next_part setup command reads) refl (were_read setup command [] reads in_order) some;
  writes_are_read = λ command reads all. written_read setup command reads;
  written_once = λ command reads all. written_once setup command reads (were_read setup command [] reads all.in_order);
}

-- `==` on the names of parts is the test of the rules
pub docket_part_eq : (setup : CourtSetup) (x y : PartId) → (docket_rules setup).same_part x y ≡ part_test.ghosts.eq x y
unfolding docket_rules
docket_part_eq setup Court Court = refl
docket_part_eq setup Court (Judge k) = refl
docket_part_eq setup Court (Room s) = refl
docket_part_eq setup Court (Case d) = refl
docket_part_eq setup (Judge j) Court = refl
docket_part_eq setup (Judge j) (Judge k) = refl
docket_part_eq setup (Judge j) (Room s) = refl
docket_part_eq setup (Judge j) (Case d) = refl
docket_part_eq setup (Room r) Court = refl
docket_part_eq setup (Room r) (Judge k) = refl
docket_part_eq setup (Room r) (Room s) = refl
docket_part_eq setup (Room r) (Case d) = refl
docket_part_eq setup (Case c) Court = refl
docket_part_eq setup (Case c) (Judge k) = refl
docket_part_eq setup (Case c) (Room s) = refl
docket_part_eq setup (Case c) (Case d) = refl
