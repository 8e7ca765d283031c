-- The calls of a clerk in a journal, and their places there.
use Rattle.std.proofs.Common.{◌≡◌, ℕ, ◌+◌, ◌<◌, ◌≤◌, ◌==◌, if◌then◌else◌, Bool, true, false, List, [], ◌∷◌, ◌++◌, length, All, refl, ap, sym, ◌∙◌, arith, length-append, subst}
use Rattle.std.proofs.lemmas.Bool.Decides.{Decides-eqb}
use Rattle.std.proofs.lemmas.List.{nil_from_length}
use Rattle.std.proofs.lemmas.List.Elements.{All-nil, All-cons, All-head, All-tail, All-weaker}
use Rattle.docket_rows.specs.declared.answer.Answer.{Answer}
use Rattle.docket_rows.specs.declared.command.Command.{Command}
use Rattle.versioned_steps.specs.declared.entry.Entry.{Entry}
use Rattle.clerk_seats.specs.Words.{places_after}
use Rattle.clerk_workers.specs.Words.{History}
use Rattle.clerk_workers.specs.Inside.Calls.{Call, calls_by}

module _ (clerk : ℕ) where
  -- the calls of one history and then another
  pub calls_append : (h k : History) → calls_by clerk (h ++ k) ≡ calls_by clerk h ++ calls_by clerk k
  calls_append [] k = refl
  calls_append (e ∷ es) k =
      let rest = calls_append es k in
      let call : Call = record { command = e.command; answer = e.answer } in
      elim (e.clerk == clerk) as (λ b. (if b then call ∷ calls_by clerk (es ++ k) else calls_by clerk (es ++ k)) ≡ (if b then call ∷ calls_by clerk es else calls_by clerk es) ++ calls_by clerk k) [
        | true ↦ ap (λ (cs : List Call). call ∷ cs) rest
        | false ↦ rest
      ]

  -- they have one place each
  pub as_many_places : (before : ℕ) (h : History) → length (places_after before clerk h) ≡ length (calls_by clerk h)
  as_many_places before [] = refl
  as_many_places before (e ∷ es) =
      let rest = as_many_places (before + 1) es in
      let call : Call = record { command = e.command; answer = e.answer } in
      elim (e.clerk == clerk) as (λ b. length (if b then (before + 1) ∷ places_after (before + 1) clerk es else places_after (before + 1) clerk es) ≡ length (if b then call ∷ calls_by clerk es else calls_by clerk es)) [
        | true ↦ omega (arith, rest)
        | false ↦ rest
      ]

  -- and those of later entries are greater
  pub places_later : (before : ℕ) (h : History) → All (λ place. before < place) (places_after before clerk h)
  places_later before [] = All-nil (λ place. before < place)
  places_later before (e ∷ es) =
      let rest = All-weaker (λ place. before + 1 < place) (λ place. before < place) (λ place above. omega (arith, above)) (places_after (before + 1) clerk es) (places_later (before + 1) es) in
      elim (e.clerk == clerk) as (λ b. All (λ place. before < place) (if b then (before + 1) ∷ places_after (before + 1) clerk es else places_after (before + 1) clerk es)) [
        | true ↦ All-cons (λ place. before < place) (before + 1) (places_after (before + 1) clerk es) (omega arith) rest
        | false ↦ rest
      ]

  -- and those of a history are no greater than its length
  pub places_inside : (before : ℕ) (h : History) → All (λ place. place ≤ before + length h) (places_after before clerk h)
  places_inside before [] = All-nil (λ place. place ≤ before + 0)
  places_inside before (e ∷ es) =
      let last = before + length (e ∷ es) in
      let rest = All-weaker (λ place. place ≤ before + 1 + length es) (λ place. place ≤ last) (λ place below. omega (arith, below)) (places_after (before + 1) clerk es) (places_inside (before + 1) es) in
      elim (e.clerk == clerk) as (λ b. All (λ place. place ≤ last) (if b then (before + 1) ∷ places_after (before + 1) clerk es else places_after (before + 1) clerk es)) [
        | true ↦ All-cons (λ place. place ≤ last) (before + 1) (places_after (before + 1) clerk es) (omega arith) rest
        | false ↦ rest
      ]

  -- a history that ends with an entry of the clerk, and has one call of the clerk's, has the call of that entry
  pub last_call : (h : History) (call : Call) → length (calls_by clerk (h ++ (record { clerk = clerk; command = call.command; answer = call.answer }) ∷ [])) ≡ 1 → calls_by clerk (h ++ (record { clerk = clerk; command = call.command; answer = call.answer }) ∷ []) ≡ call ∷ []
  last_call h call one =
      let entry : Entry Command Answer = record { clerk = clerk; command = call.command; answer = call.answer } in
      let own : (clerk == clerk) ≡ true = (Decides-eqb clerk clerk).1 refl in
      let last : calls_by clerk (entry ∷ []) ≡ call ∷ [] = rw own refl in
      let all : calls_by clerk (h ++ entry ∷ []) ≡ calls_by clerk h ++ call ∷ [] = calls_append h (entry ∷ []) ∙ ap (λ (cs : List Call). calls_by clerk h ++ cs) last in
      let none : calls_by clerk h ≡ [] = nil_from_length (calls_by clerk h) (omega (arith, one, ap length all, length-append (calls_by clerk h) (call ∷ []))) in
      all ∙ ap (λ (cs : List Call). cs ++ call ∷ []) none

-- of two ways to cut one list into numbers up to this one and greater ones after them, both are the same
pub same_cut : (limit : ℕ) (low above lower greater : List ℕ) → low ++ above ≡ lower ++ greater → All (λ n. n ≤ limit) low → All (λ n. limit < n) above → All (λ n. n ≤ limit) lower → All (λ n. limit < n) greater → low ≡ lower
same_cut limit [] above [] greater same small great smaller more = refl
same_cut limit [] above (m ∷ lower) greater same small great smaller more =
    let few : m ≤ limit = All-head (λ n. n ≤ limit) m lower smaller in
    let P : List ℕ → Type 0 = λ ns. All (λ n. limit < n) ns in
    let many : limit < m = All-head (λ n. limit < n) m (lower ++ greater) (subst P same great) in
    absurd (omega (arith, few, many))
same_cut limit (n ∷ low) above [] greater same small great smaller more =
    let few : n ≤ limit = All-head (λ n. n ≤ limit) n low small in
    let P : List ℕ → Type 0 = λ ns. All (λ n. limit < n) ns in
    let many : limit < n = All-head (λ n. limit < n) n (low ++ above) (subst P (sym same) more) in
    absurd (omega (arith, few, many))
same_cut limit (n ∷ low) above (m ∷ lower) greater same small great smaller more =
    let tails : low ++ above ≡ lower ++ greater = cc (same) in
    let heads : n ≡ m = cc (same) in
    let rest = same_cut limit low above lower greater tails (All-tail (λ n. n ≤ limit) n low small) great (All-tail (λ n. n ≤ limit) m lower smaller) more in
    cc (heads, rest)

module _ (IsIn : ℕ → Type 0) (limit : ℕ) where
  fewer : (own : Bool) (place : ℕ) (places : List ℕ) → All (λ p. p ≤ limit) (if own then place ∷ places else places) → All (λ p. p ≤ limit) places
  fewer true place places all = All-tail (λ p. p ≤ limit) place places all
  fewer false place places all = all

  -- where no clerk of theirs has a place past the limit, there are no more entries
  pub few_entries : (before : ℕ) (es : History) → All (λ (e : Entry Command Answer). IsIn e.clerk) es → ((clerk : ℕ) → IsIn clerk → All (λ p. p ≤ limit) (places_after before clerk es)) → before ≤ limit → before + length es ≤ limit
  few_entries before [] those within start = omega (arith, start)
  few_entries before (e ∷ es) those within start =
      let P : Entry Command Answer → Type 0 = λ (x : Entry Command Answer). IsIn x.clerk in
      let own : (e.clerk == e.clerk) ≡ true = (Decides-eqb e.clerk e.clerk).1 refl in
      let places = places_after (before + 1) e.clerk es in
      let Q : Bool → Type 0 = λ b. All (λ p. p ≤ limit) (if b then (before + 1) ∷ places else places) in
      let next : before + 1 ≤ limit = All-head (λ p. p ≤ limit) (before + 1) places (subst Q own (within e.clerk (All-head P e es those))) in
      let rest = few_entries (before + 1) es (All-tail P e es those) (λ clerk is. fewer (e.clerk == clerk) (before + 1) (places_after (before + 1) clerk es) (within clerk is)) next in
      omega (arith, rest)
