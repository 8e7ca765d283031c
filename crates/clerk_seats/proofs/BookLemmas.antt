-- One entry more in the book, over plain histories, stores and drafts.
use Rattle.std.proofs.Common.{◌≡◌, ℕ, ◌+◌, Some, List, [], ◌∷◌, ◌++◌, length, All, option_map, refl, ap, sym, ◌∙◌, subst, arith, length-append}
use Rattle.std.proofs.lemmas.Option.{same_Some}
use Rattle.logbook.specs.Pages.{Book}
use Rattle.docket_rows.specs.declared.answer.Answer.{Answer}
use Rattle.docket_rows.specs.declared.command.Command.{Command}
use Rattle.docket_rows.specs.declared.part.PartId.{PartId}
use Rattle.docket_rows.specs.declared.part.PartValue.{PartValue}
use Rattle.docket_rows.specs.Words.{CourtSetup}
use Rattle.versioned_steps.specs.declared.entry.Entry.{Entry}
use Rattle.versioned_steps.specs.Words.{DecisionView, IsFresh, IsPrepared, IsReadAll, MayCommit, MayFollow, Replays, StoreView, decided, value_of, writes_on}
use Rattle.versioned_steps.proofs.CallerLemmas.{may_follow, kept_by, put_by}
use Rattle.shared_docket.specs.Words.{docket_rules}
use Rattle.shared_docket.proofs.CallerLemmas.{docket_lawful}
use Rattle.published_docket.specs.declared.known.Known.{Known}
use Rattle.published_docket.specs.Words.{trail_view}
use Rattle.clerk_seats.specs.Books.{IsBook}
use Rattle.clerk_seats.specs.Finished.{DocketDraft, next_entry}

module _ (setup : CourtSetup) where
  -- a prepared draft may be committed where the store finds none of its reads stale
  pub ready : (h : List (Entry Command Answer)) (d : DocketDraft) (s : StoreView CourtSetup PartId PartValue) → s.owner ≡ setup → Replays (docket_rules setup) h s
      → ((k : List (Entry Command Answer)) → Replays (docket_rules s.owner) k s → All (IsFresh (docket_rules s.owner) k) d.reads)
      → IsPrepared (docket_rules setup) h d → MayCommit (docket_rules setup) h d
  ready h d s own replays fresh prepared =
      let P : CourtSetup → Type 0 = λ b. Replays (docket_rules b) h s → All (IsFresh (docket_rules b) h) d.reads in
      record { prepared = prepared; fresh = subst P own (fresh h) replays }

  -- a draft that was read from the store now
  pub read_now : (h : List (Entry Command Answer)) (d : DocketDraft) (s : StoreView CourtSetup PartId PartValue) → s.owner ≡ setup → Replays (docket_rules setup) h s
      → ((k : List (Entry Command Answer)) → Replays (docket_rules s.owner) k s → IsReadAll (docket_rules s.owner) k d)
      → IsReadAll (docket_rules setup) h d
  read_now h d s own replays all =
      let P : CourtSetup → Type 0 = λ b. Replays (docket_rules b) h s → IsReadAll (docket_rules b) h d in
      subst P own (all h) replays

  -- the entry that a draft becomes which may be committed is its command's on the parts as they all are now
  pub entry_next : (h : List (Entry Command Answer)) (d : DocketDraft) (e : Entry Command Answer) → MayCommit (docket_rules setup) h d → e.clerk ≡ d.clerk → e.command ≡ d.command → option_map (λ x. x.answer) d.decision ≡ Some e.answer → e ≡ next_entry setup h d.clerk d.command
  entry_next h d e may clerk command answer =
      let told : e.answer ≡ (decided (docket_rules setup) d.command d.reads).answer = same_Some _ _ (sym answer ∙ ap (option_map (λ (x : DecisionView PartId PartValue Answer). x.answer)) may.prepared.settled) in
      let whole : e.answer ≡ (next_entry setup h d.clerk d.command).answer = told ∙ (may_follow (docket_rules setup) (docket_lawful setup) h d may).answer in
      ap (λ n. record { clerk = n; command = e.command; answer = e.answer }) clerk
      ∙ ap (λ x. record { clerk = d.clerk; command = x; answer = e.answer }) command
      ∙ ap (λ a. record { clerk = d.clerk; command = d.command; answer = a }) whole

  -- and may follow
  pub next_follows : (h : List (Entry Command Answer)) (clerk : ℕ) (command : Command) (e : Entry Command Answer) → e ≡ next_entry setup h clerk command → MayFollow (docket_rules setup) h e
  next_follows h clerk command e same = rw same (record { answer = refl })

  -- a store on which what the entry writes was staged and put
  pub store_longer : (h : List (Entry Command Answer)) (e : Entry Command Answer) (s t u : StoreView CourtSetup PartId PartValue) (writes : List (PartId × PartValue)) → s.owner ≡ setup → t.owner ≡ s.owner → Replays (docket_rules setup) h s
      → ((k : List (Entry Command Answer)) → Replays (docket_rules s.owner) k s → Replays (docket_rules s.owner) k t)
      → ((k : List (Entry Command Answer)) (x : Entry Command Answer) → Replays (docket_rules t.owner) k t → writes ≡ writes_on (docket_rules t.owner) (value_of (docket_rules t.owner) k) x.command → Replays (docket_rules t.owner) (k ++ x ∷ []) u)
      → writes ≡ writes_on (docket_rules setup) (value_of (docket_rules setup) h) e.command
      → Replays (docket_rules setup) (h ++ e ∷ []) u
  store_longer h e s t u writes own same replays kept put written =
      put_by docket_rules t.owner setup (same ∙ own) t u writes put h e (kept_by docket_rules s.owner setup own s t kept h replays) written

-- the book with one entry more
pub book_longer : (history : Book) (setup : CourtSetup) (published later : Known) (journal longer : List (Entry Command Answer)) (store next : StoreView CourtSetup PartId PartValue) (total more : ℕ) (e : Entry Command Answer) → IsBook history setup published journal store total
    → later ≡ record published { trail = record published.trail { log = published.trail.log ++ e ∷ [] } }
    → longer ≡ journal ++ e ∷ [] → next.owner ≡ store.owner → Replays (docket_rules setup) (journal ++ e ∷ []) next → more ≡ total + 1
    → IsBook history setup later longer next more
book_longer history setup published later journal longer store next total more e was shown pushed same replays counted =
    let known : later ≡ record { parts = setup; trail = trail_view history (journal ++ e ∷ []) } =
    shown ∙ ap (λ (k : Known). record k { trail = record k.trail { log = k.trail.log ++ e ∷ [] } }) was.published_is in
    let count : length longer ≡ length journal + 1 = ap length pushed ∙ length-append journal (e ∷ []) in
    record {
      published_is = known ∙ ap (λ (l : List (Entry Command Answer)). record { parts = setup; trail = trail_view history l }) (sym pushed);
      owner = same ∙ was.owner;
      replays = rw pushed replays;
      counted = omega (arith, counted, was.counted, count);
    }

-- the book without entries
pub book_opened : (history : Book) (setup parts : CourtSetup) (published : Known) (journal : List (Entry Command Answer)) (store : StoreView CourtSetup PartId PartValue) (total : ℕ) → published ≡ record { parts = setup; trail = trail_view history [] }
    → journal ≡ [] → parts ≡ setup → store.owner ≡ parts → Replays (docket_rules parts) [] store → total ≡ 0
    → IsBook history setup published journal store total
book_opened history setup parts published journal store total is empty same owner replays none =
    let P : CourtSetup → Type 0 = λ b. Replays (docket_rules b) [] store in
    let Q : List (Entry Command Answer) → Type 0 = λ j. IsBook history setup published j store total in
    subst Q (sym empty) (record { published_is = is; owner = owner ∙ same; replays = subst P same replays; counted = none })
