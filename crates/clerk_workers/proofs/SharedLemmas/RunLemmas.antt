-- What all clerks did, and the journal that the closed office gave, make one run.
use Rattle.std.proofs.Common.{◌≡◌, ℕ, ◌+◌, ◌<◌, ◌≤◌, List, [], ◌∷◌, ◌++◌, length, All, Contains, refl, ap, sym, ◌∙◌, append_assoc, append-nil, arith, length-append, subst}
use Rattle.std.proofs.lemmas.List.{nil_from_length}
use Rattle.std.proofs.lemmas.List.Elements.{All-nil, All-cons, All-append, All-contains, All-head, All-weaker}
use mathlib.Core.List.{IsPrefix}
use Rattle.docket_rows.specs.declared.answer.Answer.{Answer}
use Rattle.docket_rows.specs.declared.command.Command.{Command}
use Rattle.docket_rows.specs.Words.{CourtSetup}
use Rattle.versioned_steps.specs.declared.entry.Entry.{Entry}
use Rattle.shared_docket.proofs.CallerLemmas.{legal_sequential}
use Rattle.published_docket.proofs.CallerLemmas.{prefix_length}
use Rattle.clerk_seats.specs.Words.{TallyView, IsClosed, open_seat, places_after, places_of}
use Rattle.clerk_seats.proofs.CallerLemmas.{places_append}
use Rattle.row_forms.specs.declared.row.Row.{Row}
use Rattle.row_forms.specs.declared.row.Work.{Work}
use Rattle.row_forms.specs.declared.row.Work.TheVariants as work
use Rattle.clerk_workers.specs.declared.answer.SharedReply.{SharedReply}
use Rattle.clerk_workers.specs.declared.answer.SharedReply.TheVariants.{Made, JournalFull, Viewed}
use Rattle.row_forms.specs.Words.{IsClerk}
use Rattle.clerk_workers.specs.Words.{AreAnswered, AreInTurn, HasWorked, History, IsAnsweredAt, answers_of, place_told, places_told, works_of}
use Rattle.clerk_workers.proofs.CallerLemmas.{are_answered_later}
use Rattle.clerk_workers.specs.Inside.Calls.{Call, calls_by, call_told, calls_told}
use Rattle.clerk_workers.specs.Shared.Run.{IsGivenAt, IsTold, IsSharedRun}
use Rattle.clerk_workers.proofs.SharedLemmas.CallLemmas.{as_many_places, calls_append, few_entries, last_call, places_inside, places_later, same_cut}

-- the number is greater than the one and no greater than the other
abbrev IsBetween : (low high n : ℕ) → Type 0
IsBetween low high n = (low < n) × (n ≤ high)

lower_between : (less low high : ℕ) (ns : List ℕ) → less ≤ low → All (IsBetween low high) ns → All (IsBetween less high) ns
lower_between less low high ns le all =
    All-weaker (IsBetween low high) (IsBetween less high) (λ n between. (omega (arith, le, between.0), between.1)) ns all

none_between : (low high : ℕ) (ns : List ℕ) → high ≤ low → All (IsBetween low high) ns → ns ≡ []
none_between low high [] le all = refl
none_between low high (n ∷ ns) le all =
    let between : IsBetween low high n = All-head (IsBetween low high) n ns all in
    absurd (omega (arith, le, between.0, between.1))

module _ (setup : CourtSetup) (limit clerk : ℕ) (journal : History) where
  -- the places that answers name come after what was seen before, and none is past the limit
  told_between : (before : History) (works : List Work) (answers : List SharedReply) → AreAnswered setup limit clerk journal before works answers → All (IsBetween (length before) limit) (places_told answers)
  told_between before [] [] are = All-nil (IsBetween (length before) limit)
  told_between before [] (answer ∷ answers) are = absurd are
  told_between before (w ∷ works) [] are = absurd are
  told_between before (work.Command command ∷ works) (Made done ∷ answers) are =
      let made = are.1.says in
      let long : length before ≤ length made.earlier = prefix_length before made.earlier made.later in
      let rest = lower_between (length before) (length are.0) limit (places_told answers) (prefix_length before are.0 are.1.later) (told_between are.0 works answers are.2) in
      All-cons (IsBetween (length before) limit) done.place (places_told answers) (omega (arith, long, made.place_is), made.within) rest
  told_between before (work.Command command ∷ works) (JournalFull ∷ answers) are =
      lower_between (length before) (length are.0) limit (places_told answers) (prefix_length before are.0 are.1.later) (told_between are.0 works answers are.2)
  told_between before (work.Command command ∷ works) (Viewed view ∷ answers) are = absurd are.1.says
  told_between before (work.Query query ∷ works) (Made done ∷ answers) are = absurd are.1.says
  told_between before (work.Query query ∷ works) (JournalFull ∷ answers) are = absurd are.1.says
  told_between before (work.Query query ∷ works) (Viewed view ∷ answers) are =
      lower_between (length before) (length are.0) limit (places_told answers) (prefix_length before are.0 are.1.later) (told_between are.0 works answers are.2)

  -- so after an answer that the journal is full no place is named
  none_after_full : (before : History) (works : List Work) (first later : List SharedReply) → AreAnswered setup limit clerk journal before works (first ++ JournalFull ∷ later) → places_told later ≡ []
  none_after_full before [] [] later are = absurd are
  none_after_full before [] (answer ∷ first) later are = absurd are
  none_after_full before (work.Command command ∷ works) [] later are =
      none_between (length are.0) limit (places_told later) are.1.says (told_between are.0 works later are.2)
  none_after_full before (work.Query query ∷ works) [] later are = absurd are.1.says
  none_after_full before (w ∷ works) (answer ∷ first) later are = none_after_full are.0 works first later are.2

  -- what came since the moment before, of which the clerk's is just the call that the answer names, where it has as many
  record CameSince (before : History) (w : Work) (answer : SharedReply) (moment : History) : Type 0 where
    since : History
    moment_is : before ++ since ≡ moment
    calls_are : length (calls_by clerk since) ≡ length (place_told answer) → calls_by clerk since ≡ call_told w answer
    place_inside : All (λ place. place ≤ length moment) (place_told answer)

  came_since : (before : History) (w : Work) (answer : SharedReply) (moment : History) → IsAnsweredAt setup limit clerk journal before w answer moment → CameSince before w answer moment
  came_since before (work.Command command) (Made done) moment is =
      let made = is.says in
      let call : Call = record { command = command; answer = done.answer } in
      let entry : Entry Command Answer = record { clerk = clerk; command = command; answer = done.answer } in
      let long : length moment ≡ length made.earlier + 1 = ap length made.moment_is ∙ length-append made.earlier (entry ∷ []) in
      record {
        since = made.later.0 ++ entry ∷ [];
        moment_is = sym (append_assoc before made.later.0 (entry ∷ [])) ∙ (ap (λ (h : History). h ++ entry ∷ []) made.later.1 ∙ sym made.moment_is);
        calls_are = last_call clerk made.later.0 call;
        place_inside = All-cons (λ place. place ≤ length moment) done.place [] (omega (arith, long, made.place_is)) (All-nil (λ place. place ≤ length moment));
      }
  came_since before (work.Command command) JournalFull moment is = record {
    since = is.later.0;
    moment_is = is.later.1;
    calls_are = nil_from_length (calls_by clerk is.later.0);
    place_inside = All-nil (λ place. place ≤ length moment);
  }
  came_since before (work.Command command) (Viewed view) moment is = absurd is.says
  came_since before (work.Query query) (Made done) moment is = absurd is.says
  came_since before (work.Query query) JournalFull moment is = absurd is.says
  came_since before (work.Query query) (Viewed view) moment is = record {
    since = is.later.0;
    moment_is = is.later.1;
    calls_are = nil_from_length (calls_by clerk is.later.0);
    place_inside = All-nil (λ place. place ≤ length moment);
  }

  -- as many calls of the clerk as places
  as_many : (h : History) → length (places_of clerk h) ≡ length (calls_by clerk h)
  as_many h = as_many_places clerk 0 h

  -- where the answers name all places of the clerk after those up to a moment: the places and the calls at the next moment
  module _ (before moment : History) (w : Work) (answer : SharedReply) (told : List ℕ) (is : IsAnsweredAt setup limit clerk journal before w answer moment) (above : All (λ n. length moment < n) told) (placed : places_of clerk before ++ (place_told answer ++ told) ≡ places_of clerk journal) where
    places_at : places_of clerk moment ≡ places_of clerk before ++ place_told answer
    places_at =
        let inside : ℕ → Type 0 = λ n. n ≤ length moment in
        let beyond : ℕ → Type 0 = λ n. length moment < n in
        let rest = is.beginning.0 in
        let late = places_after (0 + length moment) clerk rest in
        let cut : places_of clerk moment ++ late ≡ places_of clerk journal = sym (places_append 0 clerk moment rest) ∙ ap (places_of clerk) is.beginning.1 in
        let told_cut : (places_of clerk before ++ place_told answer) ++ told ≡ places_of clerk journal = append_assoc (places_of clerk before) (place_told answer) told ∙ placed in
        let long : length before ≤ length moment = prefix_length before moment is.later in
        let early : All inside (places_of clerk before) = All-weaker (λ n. n ≤ 0 + length before) inside (λ n few. omega (arith, few, long)) (places_of clerk before) (places_inside clerk 0 before) in
        same_cut (length moment) (places_of clerk moment) late (places_of clerk before ++ place_told answer) told (cut ∙ sym told_cut)
        (All-weaker (λ n. n ≤ 0 + length moment) inside (λ n few. omega (arith, few)) (places_of clerk moment) (places_inside clerk 0 moment))
        (All-weaker (λ n. 0 + length moment < n) beyond (λ n many. omega (arith, many)) late (places_later clerk (0 + length moment) rest))
        (All-append inside (places_of clerk before) (place_told answer) early (came_since before w answer moment is).place_inside)
        above

    calls_at : calls_by clerk moment ≡ calls_by clerk before ++ call_told w answer
    calls_at =
        let came = came_since before w answer moment is in
        let all : calls_by clerk moment ≡ calls_by clerk before ++ calls_by clerk came.since = ap (calls_by clerk) (sym came.moment_is) ∙ calls_append clerk before came.since in
        let long : length (calls_by clerk moment) ≡ length (calls_by clerk before) + length (calls_by clerk came.since) = ap length all ∙ length-append (calls_by clerk before) (calls_by clerk came.since) in
        let placed_long : length (places_of clerk moment) ≡ length (places_of clerk before) + length (place_told answer) = ap length places_at ∙ length-append (places_of clerk before) (place_told answer) in
        let same : length (calls_by clerk came.since) ≡ length (place_told answer) = omega (arith, long, placed_long, as_many moment, as_many before) in
        all ∙ ap (λ (cs : List Call). calls_by clerk before ++ cs) (came.calls_are same)

  -- a clerk whose answers name all its places in the journal that come after a moment
  record HasTold (before : History) (earlier : List Call) (works : List Work) (answers : List SharedReply) : Type 0 where
    given : AreInTurn (IsGivenAt setup limit journal clerk) before works answers
    calls : calls_by clerk journal ≡ earlier ++ calls_told works answers

  has_told : (before : History) (earlier : List Call) (works : List Work) (answers : List SharedReply) → IsPrefix before journal → calls_by clerk before ≡ earlier → places_of clerk before ++ places_told answers ≡ places_of clerk journal → AreAnswered setup limit clerk journal before works answers → HasTold before earlier works answers
  has_told before earlier [] [] begins called placed are =
      let all : calls_by clerk journal ≡ calls_by clerk before ++ calls_by clerk begins.0 = ap (calls_by clerk) (sym begins.1) ∙ calls_append clerk before begins.0 in
      let long : length (calls_by clerk journal) ≡ length (calls_by clerk before) + length (calls_by clerk begins.0) = ap length all ∙ length-append (calls_by clerk before) (calls_by clerk begins.0) in
      let same : length (places_of clerk before) ≡ length (places_of clerk journal) = ap length (sym (append-nil (places_of clerk before)) ∙ placed) in
      let none : calls_by clerk begins.0 ≡ [] = nil_from_length (calls_by clerk begins.0) (omega (arith, long, same, as_many before, as_many journal)) in
      record { given = tt; calls = all ∙ (ap (λ (cs : List Call). cs ++ calls_by clerk begins.0) called ∙ ap (λ (cs : List Call). earlier ++ cs) none) }
  has_told before earlier [] (answer ∷ answers) begins called placed are = absurd are
  has_told before earlier (w ∷ works) [] begins called placed are = absurd are
  has_told before earlier (w ∷ works) (answer ∷ answers) begins called placed are =
      let moment = are.0 in
      let told = places_told answers in
      let above = All-weaker (IsBetween (length moment) limit) (λ n. length moment < n) (λ n between. between.0) told (told_between moment works answers are.2) in
      let since : calls_by clerk moment ≡ calls_by clerk before ++ call_told w answer = calls_at before moment w answer told are.1 above placed in
      let calls : calls_by clerk moment ≡ earlier ++ call_told w answer = since ∙ ap (λ (cs : List Call). cs ++ call_told w answer) called in
      let next : places_of clerk moment ++ told ≡ places_of clerk journal = ap (λ (ps : List ℕ). ps ++ told) (places_at before moment w answer told are.1 above placed) ∙ (append_assoc (places_of clerk before) (place_told answer) told ∙ placed) in
      let rest = has_told moment (earlier ++ call_told w answer) works answers are.1.beginning calls next are.2 in
      record {
        given = (moment, record { answered = are.1; calls = since }, rest.given);
        calls = rest.calls ∙ append_assoc earlier (call_told w answer) (calls_told works answers);
      }

  -- a clerk whose answers name all its places in the journal
  pub is_told : (works : List Work) (answers : List SharedReply) → AreAnswered setup limit clerk journal [] works answers → places_told answers ≡ places_of clerk journal → IsTold setup limit journal clerk works answers
  is_told works answers are placed =
      let told = has_told [] [] works answers (journal, refl) refl placed are in
      let P : List SharedReply → Type 0 = λ those. AreAnswered setup limit clerk journal [] works those in
      record { calls = told.calls; given = told.given; full = λ first later same. none_after_full [] works first later (subst P same are) }

-- each of the clerks has worked on its rows at a seat of its own, was given its answers among these, and left one of these tallies
abbrev pub HaveWorked : (setup : CourtSetup) (clerks limit : ℕ) (rows : List Row) (answers : List SharedReply) (tallies : List TallyView) → Type 0
HaveWorked setup clerks limit rows answers tallies =
    (clerk : ℕ) → IsClerk clerks clerk → (tally : TallyView) × Contains tallies tally × HasWorked setup (open_seat limit clerk) (works_of clerk rows) (answers_of clerk rows answers) tally

module _ (setup : CourtSetup) (clerks limit : ℕ) (rows : List Row) (answers : List SharedReply) (tallies : List TallyView) (journal : History) (worked : HaveWorked setup clerks limit rows answers tallies) (closed : IsClosed setup tallies journal) where
  all_answered : (clerk : ℕ) → IsClerk clerks clerk → AreAnswered setup limit clerk journal [] (works_of clerk rows) (answers_of clerk rows answers)
  all_answered clerk one =
      let did = worked clerk one in
      are_answered_later setup limit clerk did.0.seen journal (All-contains (λ (t : TallyView). IsPrefix t.seen journal) tallies did.0 closed.seen did.1) [] (works_of clerk rows) (answers_of clerk rows answers) did.2.answered

  all_placed : (clerk : ℕ) → IsClerk clerks clerk → places_told (answers_of clerk rows answers) ≡ places_of clerk journal
  all_placed clerk one =
      let did = worked clerk one in
      sym did.2.mine ∙ All-contains (λ (t : TallyView). t.mine ≡ places_of t.number journal) tallies did.0 closed.mine did.1 ∙ ap (λ n. places_of n journal) did.2.number

  all_within : (clerk : ℕ) → IsClerk clerks clerk → All (λ place. place ≤ limit) (places_of clerk journal)
  all_within clerk one =
      let told = places_told (answers_of clerk rows answers) in
      let between = told_between setup limit clerk journal [] (works_of clerk rows) (answers_of clerk rows answers) (all_answered clerk one) in
      subst (All (λ place. place ≤ limit)) (all_placed clerk one) (All-weaker (IsBetween 0 limit) (λ place. place ≤ limit) (λ place each. each.1) told between)

  -- is a run that they shared
  pub shared_run : length answers ≡ length rows → All (λ (e : Entry Command Answer). IsClerk clerks e.clerk) journal → IsSharedRun setup clerks limit rows answers journal
  shared_run many others =
      let few : 0 + length journal ≤ limit = few_entries (IsClerk clerks) limit 0 journal others all_within (omega arith) in
      record {
        legal = closed.legal;
        sequential = legal_sequential setup journal closed.legal;
        few = omega (arith, few);
        as_many = many;
        each = λ clerk one. is_told setup limit clerk journal (works_of clerk rows) (answers_of clerk rows answers) (all_answered clerk one) (all_placed clerk one);
        no_other = others;
      }
