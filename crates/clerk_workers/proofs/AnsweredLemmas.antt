-- Answers to a clerk's rows, as more of the history is seen and more rows are answered.
use Rattle.std.proofs.Common.{◌≡◌, ℕ, List, [], ◌∷◌, ◌++◌, length, refl, ap, sym, ◌∙◌, append_assoc, append-nil, arith}
use mathlib.Core.List.{IsPrefix}
use Rattle.docket_rows.specs.Words.{CourtSetup}
use Rattle.published_docket.proofs.CallerLemmas.{prefix_self, prefix_trans}
use Rattle.row_forms.specs.declared.row.Work.{Work}
use Rattle.row_forms.specs.declared.row.Work.TheVariants as work
use Rattle.clerk_workers.specs.declared.answer.SharedReply.{SharedReply}
use Rattle.clerk_workers.specs.declared.answer.SharedReply.TheVariants.{Made, JournalFull, Viewed}
use Rattle.clerk_workers.specs.Answered.{History, Says, IsAnsweredAt, AreAnswered, place_told, places_told}

-- the places of more answers
pub places_push : (answers : List SharedReply) (answer : SharedReply) → places_told (answers ++ answer ∷ []) ≡ places_told answers ++ place_told answer
places_push [] answer = append-nil (place_told answer)
places_push (a ∷ answers) answer =
    ap (λ (ps : List ℕ). place_told a ++ ps) (places_push answers answer) ∙ sym (append_assoc (place_told a) (places_told answers) (place_told answer))

module _ (setup : CourtSetup) (limit number : ℕ) where
  -- what an answer says of its moment it says also to a clerk who had seen less before
  pub says_since : (less before : History) (w : Work) (answer : SharedReply) (moment : History) → IsPrefix less before → Says setup limit number before w answer moment → Says setup limit number less w answer moment
  says_since less before (work.Command command) (Made done) moment begins is = record {
    earlier = is.earlier;
    later = prefix_trans less before is.earlier begins is.later;
    moment_is = is.moment_is;
    place_is = is.place_is;
    within = is.within;
  }
  says_since less before (work.Command command) JournalFull moment begins is = is
  says_since less before (work.Command command) (Viewed view) moment begins is = is
  says_since less before (work.Query query) (Made done) moment begins is = is
  says_since less before (work.Query query) JournalFull moment begins is = is
  says_since less before (work.Query query) (Viewed view) moment begins is = is

  module _ (seen now : History) (more : IsPrefix seen now) where
    -- answers that were right stay so, as more is seen
    answered_later : (before : History) (w : Work) (answer : SharedReply) (moment : History) → IsAnsweredAt setup limit number seen before w answer moment → IsAnsweredAt setup limit number now before w answer moment
    answered_later before w answer moment is =
        record { later = is.later; beginning = prefix_trans moment seen now is.beginning more; says = is.says }

    pub are_answered_later : (before : History) (works : List Work) (answers : List SharedReply) → AreAnswered setup limit number seen before works answers → AreAnswered setup limit number now before works answers
    are_answered_later before [] [] are = tt
    are_answered_later before [] (answer ∷ answers) are = absurd are
    are_answered_later before (w ∷ works) [] are = absurd are
    are_answered_later before (w ∷ works) (answer ∷ answers) are =
        (are.0, answered_later before w answer are.0 are.1, are_answered_later are.0 works answers are.2)

    -- one more is answered, at the moment up to which the history is seen now
    pub are_answered_push : (before : History) (works : List Work) (answers : List SharedReply) (w : Work) (answer : SharedReply) → IsPrefix before seen → AreAnswered setup limit number seen before works answers → Says setup limit number seen w answer now → AreAnswered setup limit number now before (works ++ w ∷ []) (answers ++ answer ∷ [])
    are_answered_push before [] [] w answer begins are is =
        (now, record { later = prefix_trans before seen now begins more; beginning = prefix_self now; says = says_since before seen w answer now begins is }, tt)
    are_answered_push before [] (a ∷ answers) w answer begins are is = absurd are
    are_answered_push before (v ∷ works) [] w answer begins are is = absurd are
    are_answered_push before (v ∷ works) (a ∷ answers) w answer begins are is =
        (are.0, answered_later before v a are.0 are.1, are_answered_push are.0 works answers w answer are.1.beginning are.2 is)

  -- as many answers as works
  pub as_many : (seen before : History) (works : List Work) (answers : List SharedReply) → AreAnswered setup limit number seen before works answers → length answers ≡ length works
  as_many seen before [] [] are = refl
  as_many seen before [] (answer ∷ answers) are = absurd are
  as_many seen before (w ∷ works) [] are = absurd are
  as_many seen before (w ∷ works) (answer ∷ answers) are = omega (arith, as_many seen are.0 works answers are.2)
