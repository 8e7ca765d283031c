-- A clerk at work: what is so after some rows stays so after the next.
use Rattle.std.proofs.Common.{◌≡◌, ℕ, List, [], ◌∷◌, ◌++◌, OnOk, refl, ap, sym, ◌∙◌, append_assoc, append-nil, subst}
use Rattle.std.specs.declared.result.Result.{Result}
use Rattle.std.specs.declared.result.Result.TheVariants.{Ok, Err}
use mathlib.Core.List.{IsPrefix}
use Rattle.docket_rows.specs.Words.{CourtSetup}
use Rattle.published_docket.proofs.CallerLemmas.{prefix_self, prefix_trans}
use Rattle.clerk_seats.specs.Words.{SeatView, Goes}
use Rattle.row_forms.specs.declared.row.Row.{Row}
use Rattle.row_forms.specs.declared.row.Work.{Work}
use Rattle.clerk_workers.specs.declared.answer.SharedReply.{SharedReply}
use Rattle.clerk_workers.specs.Answered.{Says, place_told, places_told}
use Rattle.clerk_workers.specs.Noted.{HasNoted, IsNoted}
use Rattle.clerk_workers.specs.Rows.{works_of}
use Rattle.clerk_workers.specs.Inside.Steps.{Answers, FinishesNothing, HasLeft, IsAfter, IsDone}
use Rattle.clerk_workers.specs.Worked.{HasStopped, HasWorked, tally_of}
use Rattle.clerk_workers.proofs.AnsweredLemmas.{are_answered_later, are_answered_push, places_push, says_since}
use Rattle.clerk_workers.proofs.RowLemmas.{works_append, works_begin, works_other, works_own}

goes_on : (old mid new : SeatView) → Goes old mid → Goes mid new → Goes old new
goes_on old mid new first then = record {
  number = then.number ∙ first.number;
  limit = then.limit ∙ first.limit;
  seen = prefix_trans old.seen mid.seen new.seen first.seen then.seen;
}

module _ (setup : CourtSetup) where
  -- nothing was finished, and then the row was answered
  pub answers_then : {E : Type 0} (old mid : SeatView) (w : Work) (result : Result SharedReply E) (new : SeatView) → FinishesNothing old mid → Answers setup mid w result new → Answers setup old w result new
  answers_then old mid w (Ok answer) new first done = record {
    goes = goes_on old mid new first.goes done.goes;
    mine = done.mine ∙ ap (λ (ps : List ℕ). ps ++ place_told answer) first.mine;
    says = says_since setup old.limit old.number old.seen mid.seen w answer new.seen first.goes.seen (rw (first.goes.limit, first.goes.number) at done.says);
  }
  answers_then old mid w (Err e) new first nothing = record {
    goes = goes_on old mid new first.goes nothing.goes;
    mine = nothing.mine ∙ first.mine;
  }

  module _ (start : SeatView) (rows : List Row) (answers : List SharedReply) (seat : SeatView) (was : IsAfter setup start rows answers seat) where
    -- nothing more was finished
    pub after_nothing : (now : SeatView) → FinishesNothing seat now → IsAfter setup start rows answers now
    after_nothing now nothing = record {
      limit = nothing.goes.limit ∙ was.limit;
      worked = record {
        number = nothing.goes.number ∙ was.worked.number;
        seen = prefix_trans start.seen seat.seen now.seen was.worked.seen nothing.goes.seen;
        mine = nothing.mine ∙ was.worked.mine;
        answered = are_answered_later setup start.limit start.number seat.seen now.seen nothing.goes.seen start.seen (works_of start.number rows) answers was.worked.answered;
      };
    }

    -- a row of another clerk's was passed over
    pub after_other : (row : Row) → (row.clerk ≡ seat.number → ⊥) → IsAfter setup start (rows ++ row ∷ []) answers seat
    after_other row other =
        let none : works_of start.number (row ∷ []) ≡ [] = works_other start.number row (λ own. other (own ∙ sym was.worked.number)) in
        let same : works_of start.number (rows ++ row ∷ []) ≡ works_of start.number rows = works_append start.number rows (row ∷ []) ∙ (ap (λ (ws : List Work). works_of start.number rows ++ ws) none ∙ append-nil (works_of start.number rows)) in
        let P : List Work → Type 0 = λ ws. HasWorked setup start ws answers (tally_of seat) in
        record { limit = was.limit; worked = subst P (sym same) was.worked }

    -- the clerk's next row was answered
    pub after_row : (row : Row) (answer : SharedReply) (now : SeatView) → row.clerk ≡ seat.number → IsDone setup seat row.work answer now → IsAfter setup start (rows ++ row ∷ []) (answers ++ answer ∷ []) now
    after_row row answer now own done =
        let works = works_of start.number rows in
        let mine : works_of start.number (row ∷ []) ≡ row.work ∷ [] = works_own start.number row (own ∙ was.worked.number) in
        let more : works_of start.number (rows ++ row ∷ []) ≡ works ++ row.work ∷ [] = works_append start.number rows (row ∷ []) ∙ ap (λ (ws : List Work). works ++ ws) mine in
        let says : Says setup start.limit start.number seat.seen row.work answer now.seen = rw (was.limit, was.worked.number) at done.says in
        let P : List Work → Type 0 = λ ws. HasWorked setup start ws (answers ++ answer ∷ []) (tally_of now) in
        record {
          limit = done.goes.limit ∙ was.limit;
          worked = subst P (sym more) (record {
            number = done.goes.number ∙ was.worked.number;
            seen = prefix_trans start.seen seat.seen now.seen was.worked.seen done.goes.seen;
            mine = done.mine ∙ (ap (λ (ps : List ℕ). ps ++ place_told answer) was.worked.mine ∙ (append_assoc start.mine (places_told answers) (place_told answer) ∙ ap (λ (ps : List ℕ). start.mine ++ ps) (sym (places_push answers answer))));
            answered = are_answered_push setup start.limit start.number seat.seen now.seen done.goes.seen start.seen works answers row.work answer was.worked.seen was.worked.answered says;
          });
        }

  -- no row was done yet
  pub after_none : (start : SeatView) → IsAfter setup start [] [] start
  after_none start = record {
    limit = refl;
    worked = record { number = refl; seen = prefix_self start.seen; mine = sym (append-nil start.mine); answered = tt };
  }

module _ {K : Type 0} (hold : K → List SharedReply → Type 0) (setup : CourtSetup) (start : SeatView) where
  -- nothing is noted yet
  pub noted_none : (notes : K) → hold notes [] → IsNoted hold setup start [] notes start
  noted_none notes empty = record { answers = []; held = empty; after = after_none setup start }

  module _ (rows : List Row) (notes : K) (seat : SeatView) (was : IsNoted hold setup start rows notes seat) (row : Row) where
    -- a row of another clerk's was passed over
    pub noted_other : (row.clerk ≡ seat.number → ⊥) → IsNoted hold setup start (rows ++ row ∷ []) notes seat
    noted_other other =
        record { answers = was.answers; held = was.held; after = after_other setup start rows was.answers seat was.after row other }

    -- the clerk's next row was answered, and the answer noted, or the clerk found no memory for it
    pub noted_row : {E : Type 0} (answer : SharedReply) (now : SeatView) (next : K) (result : Result (Unit {0}) E) → row.clerk ≡ seat.number → IsDone setup seat row.work answer now → ((answers : List SharedReply) → hold notes answers → OnOk result (hold next (answers ++ answer ∷ []))) → OnOk result (IsNoted hold setup start (rows ++ row ∷ []) next now)
    noted_row answer now next (Ok done) own is adds =
        record { answers = was.answers ++ answer ∷ []; held = adds was.answers was.held; after = after_row setup start rows was.answers seat was.after row answer now own is }
    noted_row answer now next (Err e) own is adds = tt

    -- the clerk left before the row, or after it
    pub left_before : (now : SeatView) → FinishesNothing seat now → HasLeft setup start (rows ++ row ∷ []) now
    left_before now nothing =
        record { done = rows; answers = was.answers; beginning = (row ∷ [], refl); after = after_nothing setup start rows was.answers seat was.after now nothing }

    pub left_after : (answer : SharedReply) (now : SeatView) → row.clerk ≡ seat.number → IsDone setup seat row.work answer now → HasLeft setup start (rows ++ row ∷ []) now
    left_after answer now own is =
        record { done = rows ++ row ∷ []; answers = was.answers ++ answer ∷ []; beginning = prefix_self (rows ++ row ∷ []); after = after_row setup start rows was.answers seat was.after row answer now own is }

  -- all rows are noted
  pub noted_all : (rows : List Row) (notes : K) (seat : SeatView) → IsNoted hold setup start rows notes seat → HasNoted hold setup start (works_of start.number rows) notes (tally_of seat)
  noted_all rows notes seat was = record { answers = was.answers; held = was.held; worked = was.after.worked }

-- a clerk who left did its first rows
pub left_first : (setup : CourtSetup) (start : SeatView) (first rows : List Row) (seat : SeatView) → IsPrefix first rows → HasLeft setup start first seat → HasStopped setup start (works_of start.number rows) (tally_of seat)
left_first setup start first rows seat begins left = record {
  done = works_of start.number left.done;
  answers = left.answers;
  beginning = works_begin start.number left.done rows (prefix_trans left.done first rows left.beginning begins);
  worked = left.after.worked;
}
