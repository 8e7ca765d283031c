-- What a seat keeps, as it looks again.
use Rattle.std.proofs.Common.{◌≡◌, ℕ, ◌+◌, ◌≤◌, true, Option, Some, None, IfSome, List, [], ◌∷◌, ◌++◌, length, refl, ap, sym, ◌∙◌, subst, arith, length-append}
use Rattle.std.specs.declared.result.Result.{Result}
use Rattle.std.specs.declared.result.Result.TheVariants.{Ok, Err}
use Rattle.std.proofs.lemmas.Option.{same_Some}
use mathlib.Core.List.{IsPrefix}
use Rattle.logbook.specs.Pages.{Book}
use Rattle.docket_rows.specs.declared.answer.Answer.{Answer}
use Rattle.docket_rows.specs.declared.command.Command.{Command}
use Rattle.docket_rows.specs.Words.{CourtSetup}
use Rattle.versioned_steps.specs.declared.entry.Entry.{Entry}
use Rattle.versioned_steps.specs.Words.{is_legal}
use Rattle.versioned_steps.proofs.CallerLemmas.{legal_empty, prepared_longer}
use Rattle.shared_docket.specs.Words.{docket_rules}
use Rattle.published_docket.specs.declared.known.Known.{Known}
use Rattle.published_docket.specs.Words.{TrailView, trail_view}
use Rattle.published_docket.proofs.CallerLemmas.{prefix_self, prefix_trans}
use Rattle.clerk_seats.specs.declared.done.Done.{Done}
use Rattle.clerk_seats.specs.declared.fault.CommitError.{CommitError}
use Rattle.clerk_seats.specs.declared.fault.CommitError.TheVariants.{NothingPrepared, JournalFull, Stale, OutOfMemory}
use Rattle.clerk_seats.specs.declared.fault.PerformError.{PerformError}
use Rattle.clerk_seats.specs.declared.fault.PerformError.TheVariants as perform
use Rattle.clerk_seats.specs.Finished.{DocketDraft, IsMade, Settles, Makes, next_entry}
use Rattle.clerk_seats.specs.Places.{places_of, Within}
use Rattle.clerk_seats.specs.Seats.{SeatView, SeatPerforms}
use Rattle.clerk_seats.specs.Seen.{HasSeen, KnowsOf, Looks, IsOwn, IsSeat, IsTally}
use Rattle.clerk_seats.proofs.PlaceLemmas.{within_longer, within_next}

-- a draft stays the seat's as more is seen, and as there is more room
own_longer : (setup : CourtSetup) (h k : List (Entry Command Answer)) (number calls others capacity room : ℕ) (draft : Option DocketDraft) → IsPrefix h k → others ≡ calls → capacity ≤ room → IfSome draft (IsOwn setup h number calls capacity) → IfSome draft (IsOwn setup k number others room)
own_longer setup h k number calls others capacity room None begins same le own = tt
own_longer setup h k number calls others capacity room (Some d) begins same le own =
    record { prepared = prepared_longer (docket_rules setup) h k begins d own.prepared; clerk = own.clerk; room = omega (arith, own.room, same, le) }

-- a seat that has seen nothing and done nothing
pub seat_opened : (history : Book) (setup court : CourtSetup) (trail : TrailView) (known : Option Known) (parts amount number capacity : ℕ) → court ≡ setup → KnowsOf history setup known → trail ≡ trail_view history [] → parts ≡ 1 → amount ≡ 0 → IsSeat history setup court trail (Some known) parts amount number [] capacity None
seat_opened history setup court trail known parts amount number capacity same knows start one none =
    let P : TrailView → Type 0 = λ t. IsSeat history setup court t (Some known) parts amount number [] capacity None in
    subst P (sym start) (record {
      book = refl;
      court_is = same;
      known = known;
      there = refl;
      seen = record { knows_of = knows; legal = legal_empty (docket_rules setup) };
      one_part = one;
      counted = none;
      within = tt;
      own = tt;
    })

module _ {history : Book} {setup court : CourtSetup} {trail : TrailView} {reader : Option (Option Known)} {parts amount number capacity : ℕ} {mine : List ℕ} {draft : Option DocketDraft} (was : IsSeat history setup court trail reader parts amount number mine capacity draft) where
  -- what its reader knows
  pub seat_knows : (known : Option Known) → Some known ≡ Some was.known → HasSeen setup trail known
  seat_knows known same = let P : Option Known → Type 0 = λ k. HasSeen setup trail k in subst P (sym (same_Some _ _ same)) was.seen

  -- it has looked again, and has room for no fewer calls
  pub seat_looked : (after : TrailView) (now : Option Known) (calls : List ℕ) (room : ℕ) → Looks setup trail after now → calls ≡ mine → capacity ≤ room → IsSeat history setup court after (Some now) parts amount number calls room draft
  seat_looked after now calls room looks same le = record {
    book = looks.later.book ∙ was.book;
    court_is = was.court_is;
    known = now;
    there = refl;
    seen = looks.seen;
    one_part = was.one_part;
    counted = was.counted ∙ ap length (sym same);
    within = rw same (within_longer number mine trail.log after.log looks.later.log was.within);
    own = own_longer setup trail.log after.log number (length mine) (length calls) capacity room draft looks.later.log (ap length same) le was.own;
  }

  -- and has a draft of its own
  pub seat_drafted : (after : TrailView) (now : Option Known) (calls : List ℕ) (room : ℕ) → Looks setup trail after now → calls ≡ mine → (d : DocketDraft) → IsOwn setup after.log number (length calls) room d → IsSeat history setup court after (Some now) parts amount number calls room (Some d)
  seat_drafted after now calls room looks same d own = record {
    book = looks.later.book ∙ was.book;
    court_is = was.court_is;
    known = now;
    there = refl;
    seen = looks.seen;
    one_part = was.one_part;
    counted = was.counted ∙ ap length (sym same);
    within = rw same (within_longer number mine trail.log after.log looks.later.log was.within);
    own = own;
  }

  -- its draft is its own
  pub seat_own : (d : DocketDraft) → draft ≡ Some d → IsOwn setup trail.log number (length mine) capacity d
  seat_own d is = let P : Option DocketDraft → Type 0 = λ o. IfSome o (IsOwn setup trail.log number (length mine) capacity) in subst P is was.own

  -- its reader serves also where it has seen more of the same history
  seat_sees : (after : TrailView) → after.book ≡ trail.book → is_legal (docket_rules setup) after.log ≡ true → HasSeen setup after was.known
  seat_sees after same legal = record {
    knows_of = subst (λ b. KnowsOf b setup was.known) (sym same) was.seen.knows_of;
    legal = legal;
  }

  -- it has seen more, and its draft is as it was
  pub seat_kept : (after : TrailView) (held sum : ℕ) → after.book ≡ trail.book → is_legal (docket_rules setup) after.log ≡ true → IsPrefix trail.log after.log → held ≡ parts → sum ≡ amount → IsSeat history setup court after reader held sum number mine capacity draft
  seat_kept after held sum same legal begins holds counts = record {
    book = same ∙ was.book;
    court_is = was.court_is;
    known = was.known;
    there = was.there;
    seen = seat_sees after same legal;
    one_part = holds ∙ was.one_part;
    counted = counts ∙ was.counted;
    within = within_longer number mine trail.log after.log begins was.within;
    own = own_longer setup trail.log after.log number (length mine) (length mine) capacity capacity draft begins refl (omega arith) was.own;
  }

  -- it has seen more, and its draft is gone
  pub seat_dropped : (after : TrailView) (held sum : ℕ) (calls : List ℕ) (room : ℕ) → after.book ≡ trail.book → is_legal (docket_rules setup) after.log ≡ true → IsPrefix trail.log after.log → held ≡ parts → sum ≡ amount → calls ≡ mine → IsSeat history setup court after reader held sum number calls room None
  seat_dropped after held sum calls room same legal begins holds counts own = record {
    book = same ∙ was.book;
    court_is = was.court_is;
    known = was.known;
    there = was.there;
    seen = seat_sees after same legal;
    one_part = holds ∙ was.one_part;
    counted = counts ∙ was.counted ∙ ap length (sym own);
    within = rw own (within_longer number mine trail.log after.log begins was.within);
    own = tt;
  }

  -- its draft is gone, and nothing else happened
  pub seat_idle : (calls : List ℕ) (room : ℕ) → calls ≡ mine → IsSeat history setup court trail reader parts amount number calls room None
  seat_idle calls room own = record {
    book = was.book;
    court_is = was.court_is;
    known = was.known;
    there = was.there;
    seen = was.seen;
    one_part = was.one_part;
    counted = was.counted ∙ ap length (sym own);
    within = rw own was.within;
    own = tt;
  }

  -- a command of its clerk became an entry, at the end of its calls
  pub seat_made : (after : TrailView) (held sum : ℕ) (calls : List ℕ) (room limit : ℕ) (done : Done) (clerk : ℕ) (command : Command) (before : List (Entry Command Answer)) → after.book ≡ trail.book → is_legal (docket_rules setup) after.log ≡ true → clerk ≡ number → IsPrefix trail.log before → IsMade setup before limit clerk command done after.log → held ≡ parts → sum ≡ amount + 1 → calls ≡ mine ++ done.place ∷ []
      → IsSeat history setup court after reader held sum number calls room None
  seat_made after held sum calls room limit done clerk command before same legal own later made holds counts pushed =
      let within : Within (mine ++ (length before + 1) ∷ []) (places_of number (before ++ next_entry setup before clerk command ∷ [])) =
      within_next number mine before (next_entry setup before clerk command) own (within_longer number mine trail.log before later was.within) in
      let longer : length calls ≡ length mine + 1 = ap length pushed ∙ length-append mine (done.place ∷ []) in
      record {
        book = same ∙ was.book;
        court_is = was.court_is;
        known = was.known;
        there = was.there;
        seen = seat_sees after same legal;
        one_part = holds ∙ was.one_part;
        counted = omega (arith, counts, was.counted, longer);
        within = rw (pushed, made.place, made.history) within;
        own = tt;
      }

  -- its draft did
  pub seat_finished : (after : TrailView) (held sum : ℕ) (calls : List ℕ) (room limit : ℕ) (done : Done) (d : DocketDraft) → after.book ≡ trail.book → draft ≡ Some d → Settles setup trail.log limit d (Ok done) after.log → held ≡ parts → sum ≡ amount + 1 → calls ≡ mine ++ done.place ∷ []
      → IsSeat history setup court after reader held sum number calls room None
  seat_finished after held sum calls room limit done d same is settles holds counts pushed =
      seat_made after held sum calls room limit done d.clerk d.command settles.before same settles.legal (seat_own d is).clerk settles.later settles.commits.made holds counts pushed

  -- what it leaves
  pub seat_leaves : IsTally history setup trail parts amount number mine
  seat_leaves = record { book = was.book; legal = was.seen.legal; one_part = was.one_part; counted = was.counted; within = was.within }

-- all that was seen is seen still
pub settles_later : (setup : CourtSetup) (seen : List (Entry Command Answer)) (limit : ℕ) (d : DocketDraft) (r : Result Done CommitError) (now : List (Entry Command Answer)) → Settles setup seen limit d r now → IsPrefix seen now
settles_later setup seen limit d (Ok done) now s =
    prefix_trans seen s.before now s.later (next_entry setup s.before d.clerk d.command ∷ [], sym s.commits.made.history)
settles_later setup seen limit d (Err JournalFull) now s = subst (IsPrefix seen) (sym s.commits.same) s.later
settles_later setup seen limit d (Err (Stale part version)) now s = subst (IsPrefix seen) (sym s.commits.same) s.later
settles_later setup seen limit d (Err OutOfMemory) now s = subst (IsPrefix seen) (sym s.commits.same) s.later
settles_later setup seen limit d (Err NothingPrepared) now s = absurd s.commits

-- so where a command was made whole
pub makes_later : (setup : CourtSetup) (seen : List (Entry Command Answer)) (limit clerk : ℕ) (command : Command) (r : Result Done PerformError) (now : List (Entry Command Answer)) → Makes setup seen limit clerk command r now → IsPrefix seen now
makes_later setup seen limit clerk command (Ok done) now m =
    prefix_trans seen m.before now m.later (next_entry setup m.before clerk command ∷ [], sym m.makes.history)
makes_later setup seen limit clerk command (Err perform.JournalFull) now m = subst (IsPrefix seen) (sym m.makes.same) m.later
makes_later setup seen limit clerk command (Err perform.OutOfMemory) now m = subst (IsPrefix seen) (sym m.makes) m.later

-- no memory was left, before anything was done
pub performs_nothing : (setup : CourtSetup) (a n : SeatView) (command : Command) (r : Result Done PerformError) → is_legal (docket_rules setup) a.seen ≡ true → r ≡ Err perform.OutOfMemory → n.number ≡ a.number → n.limit ≡ a.limit → n.seen ≡ a.seen → n.mine ≡ a.mine → n.draft ≡ None → SeatPerforms setup a command r n
performs_nothing setup a n command r legal is number limit seen mine none =
    let begins : IsPrefix a.seen n.seen = subst (IsPrefix a.seen) (sym seen) (prefix_self a.seen) in
    let P : Result Done PerformError → Type 0 = λ x. SeatPerforms setup a command x n in
    subst P (sym is) (record {
      goes = record { number = number; limit = limit; seen = begins };
      makes = record { before = n.seen; later = begins; makes = refl; legal = rw seen legal };
      mine = mine;
      draft = none;
    })
