-- Numbers among those of tallies, and what the tallies of all seats come to.
use Rattle.std.proofs.Common.{◌≡◌, ℕ, ◌+◌, ◌≤◌, true, List, [], ◌∷◌, length, All, Contains, inl, inr, subst, arith}
use Rattle.std.proofs.lemmas.Bool.{cases_lt}
use Rattle.std.proofs.lemmas.List.{length-map}
use Rattle.std.proofs.lemmas.List.Elements.{All-head, All-tail}
use mathlib.Core.List.{IsPrefix}
use Rattle.docket_rows.specs.declared.answer.Answer.{Answer}
use Rattle.docket_rows.specs.declared.command.Command.{Command}
use Rattle.docket_rows.specs.Words.{CourtSetup}
use Rattle.versioned_steps.specs.declared.entry.Entry.{Entry}
use Rattle.versioned_steps.specs.Words.{is_legal}
use Rattle.shared_docket.specs.Words.{docket_rules}
use Rattle.clerk_seats.specs.Closed.{TallyView, numbers_of, calls_of, AreApart, HasTallies, AreOfSeats, IsClosed}
use Rattle.clerk_seats.specs.Places.{Within, places_of}
use Rattle.clerk_seats.proofs.CountLemmas.{counted}
use Rattle.clerk_seats.proofs.NumberLemmas.{behind, each_once, has_all, no_others}

-- where none of them has the number, it isn't among theirs
pub no_tally : (ts : List TallyView) (k : ℕ) → All (λ (t : TallyView). t.number ≡ k → ⊥) ts → Contains (numbers_of ts) k → ⊥
no_tally [] k none has = omega (arith, has.1)
no_tally (t ∷ ts) k none has =
    let P : TallyView → Type 0 = λ (x : TallyView). x.number ≡ k → ⊥ in
    no_tally ts k (All-tail P t ts none) (behind t.number k (numbers_of ts) (All-head P t ts none) has)

-- the seats up to this one have tallies, and so has the next
pub one_more : (ts : List TallyView) (before : ℕ) → HasTallies before ts → Contains (numbers_of ts) (before + 1) → HasTallies (before + 1) ts
one_more ts before has next number above within =
    elim (cases_lt before number) as (λ _. Contains (numbers_of ts) number) [
      | inl beyond ↦ let same : before + 1 ≡ number = omega (arith, beyond, within) in subst (Contains (numbers_of ts)) same next
      | inr within ↦ has number above within
    ]

module _ (seats : ℕ) (ts : List TallyView) (whole : HasTallies seats ts) where
  -- as many as the seats at least
  pub enough : seats ≤ length ts
  enough = omega (arith, has_all seats (numbers_of ts) whole, length-map ts (λ (t : TallyView). t.number))

  -- where there are no more, each is of a seat
  pub of_seats : length ts ≤ seats → AreOfSeats seats ts
  of_seats few = no_others seats (numbers_of ts) whole (omega (arith, few, length-map ts (λ (t : TallyView). t.number)))

  -- and no two are of one seat
  pub apart : length ts ≤ seats → AreApart ts
  apart few = each_once seats (numbers_of ts) whole (omega (arith, few, length-map ts (λ (t : TallyView). t.number)))

  -- so their calls, which are as many as the entries, are these
  pub closes : (setup : CourtSetup) (journal : List (Entry Command Answer)) → length ts ≤ seats → is_legal (docket_rules setup) journal ≡ true → All (λ (t : TallyView). IsPrefix t.seen journal) ts → All (λ (t : TallyView). Within t.mine (places_of t.number journal)) ts → calls_of ts ≡ length journal → IsClosed setup ts journal
  closes setup journal few legal seen mine all =
      counted journal setup ts (apart few) legal seen mine all
