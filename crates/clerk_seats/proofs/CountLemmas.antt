-- Counting: seats whose calls make up the whole journal have all its entries.
use Rattle.std.proofs.Common.{◌≡◌, ℕ, suc, ◌+◌, ◌<◌, ◌≤◌, ◌==◌, if◌then◌else◌, true, false, nat_eq, List, [], ◌∷◌, length, All, Contains, refl, sym, arith}
use Rattle.std.specs.List.{IsDistinct, AllByRecursion}
use Rattle.std.proofs.lemmas.List.Elements.{All-nil, All-cons, All-head, All-tail}
use Rattle.std.proofs.lemmas.List.Sums.{sum_by-cons}
use Rattle.std.proofs.lemmas.Map.Keys.{IsDistinct-head, IsDistinct-tail}
use Rattle.std.proofs.lemmas.Bool.Decides.{Decides-eqb}
use mathlib.Core.List.{IsPrefix}
use Rattle.docket_rows.specs.declared.answer.Answer.{Answer}
use Rattle.docket_rows.specs.declared.command.Command.{Command}
use Rattle.docket_rows.specs.Words.{CourtSetup}
use Rattle.versioned_steps.specs.declared.entry.Entry.{Entry}
use Rattle.versioned_steps.specs.Words.{is_legal}
use Rattle.shared_docket.specs.Words.{docket_rules}
use Rattle.shared_docket.proofs.CallerLemmas.{legal_sequential}
use Rattle.clerk_seats.specs.Places.{places_after, places_of, Within}
use Rattle.clerk_seats.specs.Closed.{TallyView, numbers_of, calls_of, AreApart, IsClosed}
use Rattle.clerk_seats.proofs.PlaceLemmas.{within_length, within_whole}

-- how often the number is among these
abbrev often : ℕ → List ℕ → ℕ
often k [] = 0
often k (n ∷ ns) = (if k == n then 1 else 0) + often k ns

often_none : (k n : ℕ) (ns : List ℕ) → k ≡ n → AllByRecursion (λ y. nat_eq n y ≡ false) ns → often k ns ≡ 0
often_none k n [] same none = refl
often_none k n (y ∷ ys) same none =
    let differs : (k == y) ≡ false = rw same none.0 in
    rw differs (omega (arith, often_none k n ys same none.1))

often_once : (k : ℕ) (ns : List ℕ) → IsDistinct nat_eq ns → often k ns ≤ 1
often_once k [] distinct = omega arith
often_once k (n ∷ ns) distinct =
    (elim (k == n) as (λ b. (k == n) ≡ b → (if b then 1 else 0) + often k ns ≤ 1) [
      | true ↦ λ is. omega (arith, often_none k n ns ((Decides-eqb k n).0 is) (IsDistinct-head nat_eq n ns distinct))
      | false ↦ λ is. omega (arith, often_once k ns (IsDistinct-tail nat_eq n ns distinct))
    ]) refl

often_has : (k : ℕ) (ns : List ℕ) → 0 < often k ns → Contains ns k
often_has k [] some = absurd (omega (arith, some))
often_has k (n ∷ ns) some =
    (elim (k == n) as (λ b. (k == n) ≡ b → 0 < (if b then 1 else 0) + often k ns → Contains (n ∷ ns) k) [
      | true ↦ λ is some. (0, omega arith, sym ((Decides-eqb k n).0 is))
      | false ↦ λ is some.
          let rest = often_has k ns (omega (arith, some)) in
          (suc rest.0, omega (arith, rest.1), rest.2)
    ]) refl some

-- how many entries these clerks have together, where each is once among them
abbrev total : {C A : Type 0} → (before : ℕ) → List ℕ → List (Entry C A) → ℕ
total before [] h = 0
total before (n ∷ ns) h = length (places_after before n h) + total before ns h

total_nil : (C A : Type 0) (before : ℕ) (ns : List ℕ) → total {C = C} {A = A} before ns [] ≡ 0
total_nil C A before [] = refl
total_nil C A before (n ∷ ns) = omega (arith, total_nil C A before ns)

module _ {C A : Type 0} where
  total_cons : (before : ℕ) (ns : List ℕ) (e : Entry C A) (es : List (Entry C A)) → total before ns (e ∷ es) ≡ often e.clerk ns + total (before + 1) ns es
  total_cons before [] e es = refl
  total_cons before (n ∷ ns) e es =
      let rest = total_cons before ns e es in
      elim (e.clerk == n) as (λ b. length (if b then (before + 1) ∷ places_after (before + 1) n es else places_after (before + 1) n es) + total before ns (e ∷ es) ≡ ((if b then 1 else 0) + often e.clerk ns) + (length (places_after (before + 1) n es) + total (before + 1) ns es)) [
        | true ↦ omega (arith, rest)
        | false ↦ omega (arith, rest)
      ]

  total_most : (before : ℕ) (ns : List ℕ) (h : List (Entry C A)) → IsDistinct nat_eq ns → total before ns h ≤ length h
  total_most before ns [] distinct = omega (arith, total_nil C A before ns)
  total_most before ns (e ∷ es) distinct = omega (arith, total_cons before ns e es, often_once e.clerk ns distinct, total_most (before + 1) ns es distinct)

  -- clerks who have all entries together: no entry is of another
  none_other : (before : ℕ) (ns : List ℕ) (h : List (Entry C A)) → IsDistinct nat_eq ns → length h ≤ total before ns h → All (λ (e : Entry C A). Contains ns e.clerk) h
  none_other before ns [] distinct all = All-nil (λ (e : Entry C A). Contains ns e.clerk)
  none_other before ns (e ∷ es) distinct all =
      let first = total_cons before ns e es in
      let once = often_once e.clerk ns distinct in
      let most = total_most (before + 1) ns es distinct in
      All-cons (λ (x : Entry C A). Contains ns x.clerk) e es (often_has e.clerk ns (omega (arith, all, first, most))) (none_other (before + 1) ns es distinct (omega (arith, all, first, once)))

abbrev calls_in : TallyView → ℕ
calls_in t = length t.mine

module _ (journal : List (Entry Command Answer)) where
  -- the calls of a seat are some of its entries
  abbrev HasSome : TallyView → Type 0
  HasSome t = Within t.mine (places_of t.number journal)

  abbrev HasAll : TallyView → Type 0
  HasAll t = t.mine ≡ places_of t.number journal

  -- together they are no more than all; and where they are as many, each seat has all of its own
  calls_most : (ts : List TallyView) → All HasSome ts → calls_of ts ≤ total 0 (numbers_of ts) journal
  calls_most [] some = omega arith
  calls_most (t ∷ ts) some =
      omega (arith, sum_by-cons calls_in t ts, within_length t.mine (places_of t.number journal) (All-head HasSome t ts some), calls_most ts (All-tail HasSome t ts some))

  calls_whole : (ts : List TallyView) → All HasSome ts → total 0 (numbers_of ts) journal ≤ calls_of ts → All HasAll ts
  calls_whole [] some as_many = All-nil HasAll
  calls_whole (t ∷ ts) some as_many =
      let first = All-head HasSome t ts some in
      let rest = All-tail HasSome t ts some in
      let sum = sum_by-cons calls_in t ts in
      All-cons HasAll t ts
      (within_whole t.mine (places_of t.number journal) first (omega (arith, as_many, sum, calls_most ts rest)))
      (calls_whole ts rest (omega (arith, as_many, sum, within_length t.mine (places_of t.number journal) first)))

  -- seats whose calls make up the length of the journal: each has its entries, and there are no others
  pub counted : (setup : CourtSetup) (ts : List TallyView) → AreApart ts → is_legal (docket_rules setup) journal ≡ true → All (λ (t : TallyView). IsPrefix t.seen journal) ts → All HasSome ts → calls_of ts ≡ length journal → IsClosed setup ts journal
  counted setup ts apart legal seen some all =
      record {
        legal = legal;
        sequential = legal_sequential setup journal legal;
        seen = seen;
        mine = calls_whole ts some (omega (arith, all, total_most 0 (numbers_of ts) journal apart));
        no_other = none_other 0 (numbers_of ts) journal apart (omega (arith, all, calls_most ts some));
      }
