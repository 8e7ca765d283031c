-- The push law of each word of a history, and what follows from them over plain histories.
use Rattle.std.proofs.Common.{◌≡◌, ℕ, suc, ◌+◌, ◌≤◌, true, false, ◌&&◌, if◌then◌else◌, Some, None, is_some, unwrap_or, List, [], ◌∷◌, ◌++◌, length, take, drop, refl, ap, sym, ◌∙◌, arith}
use Rattle.std.proofs.lemmas.List.{take-append-drop, length-take-le}
use Rattle.std.proofs.lemmas.Bool.{and_parts, and_from}
use mathlib.Core.List.{IsPrefix}
use Rattle.versioned_steps.specs.Rules.{Rules, IsLawful}
use Rattle.versioned_steps.specs.History.{write_to, written, answer_on, writes_on, touches, values_after, value_of, last_touch, version_of, is_legal_from, is_legal, MayFollow}
use Rattle.versioned_steps.specs.declared.entry.Entry.{Entry}

module _ {Part Value Command Answer : Type 0} (r : Rules Part Value Command Answer) where
  -- the empty history is legal, and leaves each part with its opening value and version 0
  pub legal_empty : is_legal r [] ≡ true
  unfolding is_legal_from
  legal_empty = refl

  pub value_empty : (part : Part) → value_of r [] part ≡ r.opening part
  unfolding values_after
  value_empty part = refl

  pub version_empty : (part : Part) → version_of r [] part ≡ 0
  unfolding last_touch
  version_empty part = refl

  -- the values after one history and then another
  pub values_after-append : (values : Part → Value) (h k : List (Entry Command Answer)) → values_after r values (h ++ k) ≡ values_after r (values_after r values h) k
  unfolding values_after
  values_after-append values [] k = refl
  values_after-append values (e ∷ es) k = values_after-append (written r values (writes_on r values e.command)) es k

  -- one more entry writes what its command, decided on the values before it, writes
  pub value_push : (h : List (Entry Command Answer)) (e : Entry Command Answer) (part : Part)
      → value_of r (h ++ e ∷ []) part ≡ unwrap_or (write_to r part (writes_on r (value_of r h) e.command)) (value_of r h part)
  unfolding values_after
  value_push h e part = ap (λ (f : Part → Value). f part) (values_after-append r.opening h (e ∷ []))

  -- the last touch in one history and then another
  pub last_touch-append : (values : Part → Value) (place last : ℕ) (h k : List (Entry Command Answer)) (part : Part)
      → last_touch r values place last (h ++ k) part ≡ last_touch r (values_after r values h) (place + length h) (last_touch r values place last h part) k part
  unfolding values_after last_touch
  last_touch-append values place last [] k part = ap (λ n. last_touch r values n last k part) (omega arith)
  last_touch-append values place last (e ∷ es) k part =
      let next = written r values (writes_on r values e.command) in
      let now = if touches r values e.command part then place + 1 else last in
      last_touch-append next (place + 1) now es k part
      ∙ ap (λ n. last_touch r (values_after r next es) n (last_touch r next (place + 1) now es part) k part) (omega arith)

  -- one more entry is the last to touch what its command writes, and leaves each other version
  pub version_push : (h : List (Entry Command Answer)) (e : Entry Command Answer) (part : Part)
      → version_of r (h ++ e ∷ []) part ≡ (if touches r (value_of r h) e.command part then length h + 1 else version_of r h part)
  unfolding last_touch
  version_push h e part =
      last_touch-append r.opening 0 0 h (e ∷ []) part
      ∙ ap (λ n. if touches r (value_of r h) e.command part then n + 1 else version_of r h part) (omega arith)

  -- the last touch is at or after the one before
  pub last_touch_least : (values : Part → Value) (place last : ℕ) (h : List (Entry Command Answer)) (part : Part) → last ≤ place → last ≤ last_touch r values place last h part
  unfolding last_touch
  last_touch_least values place last [] part le = omega arith
  last_touch_least values place last (e ∷ es) part le =
      let next = written r values (writes_on r values e.command) in
      elim (touches r values e.command part) as (λ b. last ≤ last_touch r next (place + 1) (if b then place + 1 else last) es part) [
        | true ↦ omega (arith, last_touch_least next (place + 1) (place + 1) es part (omega arith))
        | false ↦ last_touch_least next (place + 1) last es part (omega arith)
      ]

  -- and not after the end
  pub last_touch_most : (values : Part → Value) (place last : ℕ) (h : List (Entry Command Answer)) (part : Part) → last ≤ place → last_touch r values place last h part ≤ place + length h
  unfolding last_touch
  last_touch_most values place last [] part le = omega arith
  last_touch_most values place last (e ∷ es) part le =
      let next = written r values (writes_on r values e.command) in
      elim (touches r values e.command part) as (λ b. last_touch r next (place + 1) (if b then place + 1 else last) es part ≤ place + suc (length es)) [
        | true ↦ omega (arith, last_touch_most next (place + 1) (place + 1) es part (omega arith))
        | false ↦ omega (arith, last_touch_most next (place + 1) last es part (omega arith))
      ]

  -- a version is a place of the history, or 0
  pub version_most : (h : List (Entry Command Answer)) (part : Part) → version_of r h part ≤ length h
  version_most h part = omega (arith, last_touch_most r.opening 0 0 h part (omega arith))

  -- entries that don't touch the part leave its value
  pub untouched : (values : Part → Value) (place last : ℕ) (h : List (Entry Command Answer)) (part : Part) → last ≤ place → last_touch r values place last h part ≤ place
      → values_after r values h part ≡ values part
  unfolding values_after last_touch
  untouched values place last [] part le none = refl
  untouched values place last (e ∷ es) part le none =
      let next = written r values (writes_on r values e.command) in
      (elim (write_to r part (writes_on r values e.command)) as (λ w.
      (next part ≡ unwrap_or w (values part)) → last_touch r next (place + 1) (if is_some w then place + 1 else last) es part ≤ place → values_after r next es part ≡ values part) [
        | None ↦ λ same at_most. untouched next (place + 1) last es part (omega arith) (omega arith) ∙ same
        | Some value ↦ λ same at_most. absurd (omega (arith, last_touch_least next (place + 1) (place + 1) es part (omega arith)))
      ]) refl none

  -- a part that no entry after h touches has the value that it had after h
  pub unchanged_after : (h k : List (Entry Command Answer)) (part : Part) → version_of r (h ++ k) part ≤ length h → value_of r (h ++ k) part ≡ value_of r h part
  unchanged_after h k part at_most =
      let joined = last_touch-append r.opening 0 0 h k part in
      ap (λ (f : Part → Value). f part) (values_after-append r.opening h k)
      ∙ untouched (value_of r h) (0 + length h) (version_of r h part) k part (omega (arith, version_most h part)) (omega (arith, joined, at_most))

  -- a part that was not touched since a length has the value that it had there
  pub unchanged : (h : List (Entry Command Answer)) (at : ℕ) (part : Part) → at ≤ length h → version_of r h part ≤ at → value_of r h part ≡ value_of r (take at h) part
  unchanged h at part within at_most =
      let cut : take at h ++ drop at h ≡ h = take-append-drop at h in
      let len : length (take at h) ≡ at = length-take-le at h within in
      let short : version_of r (take at h ++ drop at h) part ≤ length (take at h) = rw (cut, len) at_most in
      ap (λ l. value_of r l part) (sym cut) ∙ unchanged_after (take at h) (drop at h) part short

  -- legal from these values on: one history, and then another
  pub is_legal_from-append : (values : Part → Value) (h k : List (Entry Command Answer)) → is_legal_from r values (h ++ k) ≡ (is_legal_from r values h && is_legal_from r (values_after r values h) k)
  unfolding values_after is_legal_from
  is_legal_from-append values [] k = refl
  is_legal_from-append values (e ∷ es) k =
      let next = written r values (writes_on r values e.command) in
      let rest = is_legal_from-append next es k in
      elim (r.same_answer e.answer (answer_on r values e.command)) as (λ b. (b && is_legal_from r next (es ++ k)) ≡ ((b && is_legal_from r next es) && is_legal_from r (values_after r next es) k)) [
        | true ↦ rest
        | false ↦ refl
      ]

  -- an entry that may follow a legal history makes it a longer legal one
  pub legal_push : IsLawful r → (h : List (Entry Command Answer)) (e : Entry Command Answer) → is_legal r h ≡ true → MayFollow r h e → is_legal r (h ++ e ∷ []) ≡ true
  unfolding is_legal_from
  legal_push laws h e legal follows =
      let itself : r.same_answer e.answer (answer_on r (value_of r h) e.command) ≡ true = rw follows.answer (laws.answer_itself (answer_on r (value_of r h) e.command)) in
      is_legal_from-append r.opening h (e ∷ []) ∙ and_from _ _ legal (and_from _ _ itself refl)

  -- the beginning of a legal history is legal
  pub legal_before : (h k : List (Entry Command Answer)) → is_legal r (h ++ k) ≡ true → is_legal r h ≡ true
  legal_before h k legal = (and_parts _ _ (sym (is_legal_from-append r.opening h k) ∙ legal)).0

  pub legal_prefix : (h k : List (Entry Command Answer)) → IsPrefix h k → is_legal r k ≡ true → is_legal r h ≡ true
  legal_prefix h k begins legal = legal_before h begins.0 (ap (is_legal r) begins.1 ∙ legal)

  -- the last entry of a legal history may follow the others
  pub legal_last : IsLawful r → (h : List (Entry Command Answer)) (e : Entry Command Answer) → is_legal r (h ++ e ∷ []) ≡ true → MayFollow r h e
  unfolding is_legal_from
  legal_last laws h e legal =
      let both = and_parts _ _ (sym (is_legal_from-append r.opening h (e ∷ [])) ∙ legal) in
      record { answer = laws.answers_equal _ _ (and_parts _ _ both.1).0 }
