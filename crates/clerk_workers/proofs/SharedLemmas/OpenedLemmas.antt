-- The seats of an office that was opened, and what their clerks leave.
use Rattle.std.proofs.Common.{◌≡◌, ℕ, zero, suc, ◌+◌, ◌<◌, List, [], ◌∷◌, length, get_or, Contains, inl, inr, refl, ap, sym, ◌∙◌, subst, arith, add-one}
use Rattle.std.proofs.Math.Seq.{get_or-append_seam}
use Rattle.std.proofs.Math.ListN.{get_or-append}
use Rattle.std.proofs.lemmas.Bool.{cases_lt}
use Rattle.std.proofs.lemmas.List.Elements.{All-weaker}
use Rattle.docket_rows.specs.declared.answer.Answer.{Answer}
use Rattle.docket_rows.specs.declared.command.Command.{Command}
use Rattle.docket_rows.specs.Words.{CourtSetup}
use Rattle.versioned_steps.specs.declared.entry.Entry.{Entry}
use Rattle.clerk_seats.specs.Words.{AreOfSeats, IsClosed, IsOpened, SeatView, TallyView, numbers_of, open_seat, open_seats}
use Rattle.row_forms.specs.declared.row.Row.{Row}
use Rattle.clerk_workers.specs.declared.answer.SharedReply.{SharedReply}
use Rattle.row_forms.specs.Words.{IsClerk}
use Rattle.clerk_workers.specs.Words.{AllNoted, AllWorked, AreInOrder, AreNoted, HasRun, HasWorked, History, answers_of, works_of}
use Rattle.clerk_workers.proofs.CallerLemmas.{are_noted, noted_long, open_in_order, open_long}
use Rattle.clerk_workers.specs.Shared.Run.{IsSharedRun}
use Rattle.clerk_workers.proofs.SharedLemmas.RunLemmas.{HaveWorked, shared_run}

-- the seat at each place of an office has the next number
open_at : (limit count i : ℕ) (d : SeatView) → i < count → get_or (open_seats limit count) i d ≡ open_seat limit (i + 1)
open_at limit zero i d within = absurd (omega (arith, within))
open_at limit (suc count) i d within =
    let long = open_long limit count in
    let last = open_seat limit (count + 1) in
    elim (cases_lt i count) as (λ _. get_or (open_seats limit (suc count)) i d ≡ open_seat limit (i + 1)) [
      | inl before ↦
          let inside : i < length (open_seats limit count) = omega (arith, before, long) in
          get_or-append (open_seats limit count) (last ∷ []) d i inside ∙ open_at limit count i d before
      | inr beyond ↦
          let here : length (open_seats limit count) ≡ i = omega (arith, beyond, within, long) in
          let same : count ≡ i = omega (arith, beyond, within) in
          ap (λ n. get_or (open_seats limit (suc count)) n d) (sym here) ∙ get_or-append_seam (open_seats limit count) last [] d ∙ ap (λ n. open_seat limit (n + 1)) same
    ]

module _ (setup : CourtSetup) (rows : List Row) (answers : List SharedReply) where
  -- the tally that the seat at a place has left
  one_worked : (seats : List SeatView) (tallies : List TallyView) → AllWorked setup rows answers seats tallies → (i : ℕ) (d : SeatView) → i < length seats → (t : TallyView) × Contains tallies t × HasWorked setup (get_or seats i d) (works_of (get_or seats i d).number rows) (answers_of (get_or seats i d).number rows answers) t
  one_worked [] tallies all i d within = absurd (omega (arith, within))
  one_worked (s ∷ ss) [] all i d within = absurd all
  one_worked (s ∷ ss) (t ∷ ts) all zero d within = (t, (0, omega arith, refl), all.0)
  one_worked (s ∷ ss) (t ∷ ts) all (suc i) d within =
      let rest = one_worked ss ts all.1 i d (omega (arith, within)) in
      (rest.0, (suc rest.1.0, omega (arith, rest.1.1), rest.1.2), rest.2)

  module _ (clerks limit : ℕ) (tallies : List TallyView) (all : AllWorked setup rows answers (open_seats limit clerks) tallies) where
    have_worked : HaveWorked setup clerks limit rows answers tallies
    have_worked zero one = absurd (omega (arith, one.from_one))
    have_worked (suc i) one =
        let within : i < length (open_seats limit clerks) = omega (arith, one.to_last, open_long limit clerks) in
        let seat : get_or (open_seats limit clerks) i (open_seat limit 0) ≡ open_seat limit (suc i) = open_at limit clerks i (open_seat limit 0) (omega (arith, one.to_last)) ∙ ap (open_seat limit) (add-one i) in
        let Left : SeatView → Type 0 = λ s. (t : TallyView) × Contains tallies t × HasWorked setup s (works_of s.number rows) (answers_of s.number rows answers) t in
        subst Left seat (one_worked (open_seats limit clerks) tallies all i (open_seat limit 0) within)

module _ {K : Type 0} (hold : K → List SharedReply → Type 0) (setup : CourtSetup) (rows : List Row) (clerks limit office : ℕ) (seats : List SeatView) (notes : List K) (tallies : List TallyView) (opened : IsOpened clerks limit office seats) (noted : AllNoted hold setup rows seats notes tallies) where
  -- the notes of the clerks who worked at the seats of an office that was opened
  pub notes_long : length notes ≡ clerks
  notes_long = noted_long hold setup rows seats notes tallies noted ∙ (ap length opened.seats_are ∙ open_long limit clerks)

  pub notes_made : AreNoted hold setup rows seats notes tallies
  notes_made =
      are_noted hold setup rows seats notes tallies noted (subst AreInOrder (sym opened.seats_are) (open_in_order limit clerks))

-- the run of an office that was opened, at whose seats all rows were answered, and that was closed
pub run_made : (setup : CourtSetup) (clerks limit office : ℕ) (seats : List SeatView) (rows : List Row) (answers : List SharedReply) (tallies : List TallyView) (journal : History) → IsOpened clerks limit office seats → HasRun setup rows seats answers tallies → IsClosed setup tallies journal → AreOfSeats office tallies → IsSharedRun setup clerks limit rows answers journal
run_made setup clerks limit office seats rows answers tallies journal opened ran closed of_seats =
    let P : List SeatView → Type 0 = λ ss. AllWorked setup rows answers ss tallies in
    let worked = have_worked setup rows answers clerks limit tallies (subst P opened.seats_are ran.worked) in
    let IsTallied : Entry Command Answer → Type 0 = λ (e : Entry Command Answer). Contains (numbers_of tallies) e.clerk in
    let IsTheirs : Entry Command Answer → Type 0 = λ (e : Entry Command Answer). IsClerk clerks e.clerk in
    shared_run setup clerks limit rows answers tallies journal worked closed ran.as_many
    (All-weaker IsTallied IsTheirs (λ e has. let seat = of_seats e.clerk has in record { from_one = seat.0; to_last = omega (arith, seat.1, opened.office_is) }) journal closed.no_other)
