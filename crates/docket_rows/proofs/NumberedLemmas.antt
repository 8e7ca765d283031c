-- Rows that are numbered in the order of their list.
use Rattle.std.proofs.Common.{◌≡◌, ◌-◌, Bool, ℕ, zero, suc, ◌+◌, ◌<◌, ◌≤◌, ◌==◌, true, false, List, [], ◌∷◌, ◌++◌, length, slice_get, get_or, set, find, zero-add, map, Option, Some, None, option_map, refl, ap, sym, ◌∙◌, arith, eq-eqb, ne_eqb, if◌then◌else◌}
use Rattle.std.proofs.lemmas.List.{set-get_or}
use Rattle.rule_periods.specs.declared.grant.Grant.{Grant}
use Rattle.rule_periods.specs.Words.{DeadlineRowView, with_grant}
use Rattle.docket_rows.specs.declared.hearing.Hearing.{Hearing}
use Rattle.docket_rows.specs.declared.motion.MotionRecord.{MotionRecord}
use Rattle.docket_rows.specs.Cases.{NumberedDeadline, NumberedMotion, numbered_deadlines, numbered_motions}

pub length-numbered_deadlines : (rows : List DeadlineRowView) (k : ℕ) → length (numbered_deadlines k rows) ≡ length rows
length-numbered_deadlines [] k = refl
length-numbered_deadlines (r ∷ rows) k = ap suc (length-numbered_deadlines rows (k + 1))

pub length-numbered_motions : (ms : List MotionRecord) (k : ℕ) → length (numbered_motions k ms) ≡ length ms
length-numbered_motions [] k = refl
length-numbered_motions (m ∷ ms) k = ap suc (length-numbered_motions ms (k + 1))

-- the row of a number is that many places after the first
pub find-numbered_deadlines : (rows : List DeadlineRowView) (n k i : ℕ) → n ≡ k + i → option_map (λ (d : NumberedDeadline). d.row) (find (λ (d : NumberedDeadline). d.number == n) (numbered_deadlines k rows)) ≡ slice_get rows i
find-numbered_deadlines [] n k i e = refl
find-numbered_deadlines (r ∷ rows) n k zero e =
    let here : (k == n) ≡ true = eq-eqb k n (omega arith) in
    rw here refl
find-numbered_deadlines (r ∷ rows) n k (suc i) e =
    let other : (k == n) ≡ false = ne_eqb k n (omega arith) in
    rw other (find-numbered_deadlines rows n (k + 1) i (omega arith))

-- no row has a number below the first
pub find-numbered_deadlines-below : (rows : List DeadlineRowView) (n k i : ℕ) → n + i + 1 ≡ k → find (λ (d : NumberedDeadline). d.number == n) (numbered_deadlines k rows) ≡ None
find-numbered_deadlines-below [] n k i e = refl
find-numbered_deadlines-below (r ∷ rows) n k i e =
    let other : (k == n) ≡ false = ne_eqb k n (omega arith) in
    rw other (find-numbered_deadlines-below rows n (k + 1) (i + 1) (omega arith))

pub find-numbered_motions : (ms : List MotionRecord) (n k i : ℕ) → n ≡ k + i → find (λ (m : NumberedMotion). m.number == n) (numbered_motions k ms) ≡ option_map (λ (m : MotionRecord). record { number = n; served = m.served; need = m.need; hearing = m.hearing }) (slice_get ms i)
find-numbered_motions [] n k i e = refl
find-numbered_motions (m ∷ ms) n k zero e =
    let here : (k == n) ≡ true = eq-eqb k n (omega arith) in
    let same : k ≡ n = omega arith in
    rw (here, same) refl
find-numbered_motions (m ∷ ms) n k (suc i) e =
    let other : (k == n) ≡ false = ne_eqb k n (omega arith) in
    rw other (find-numbered_motions ms n (k + 1) i (omega arith))

pub find-numbered_motions-below : (ms : List MotionRecord) (n k i : ℕ) → n + i + 1 ≡ k → find (λ (m : NumberedMotion). m.number == n) (numbered_motions k ms) ≡ None
find-numbered_motions-below [] n k i e = refl
find-numbered_motions-below (m ∷ ms) n k i e =
    let other : (k == n) ≡ false = ne_eqb k n (omega arith) in
    rw other (find-numbered_motions-below ms n (k + 1) (i + 1) (omega arith))

-- one more row has the next number
pub push_deadline : (rows : List DeadlineRowView) (row : DeadlineRowView) (k : ℕ) → numbered_deadlines k (rows ++ row ∷ []) ≡ numbered_deadlines k rows ++ record { number = length rows + k; row = row } ∷ []
push_deadline [] row k = rw zero-add refl
push_deadline (r ∷ rows) row k =
    let more : length rows + (k + 1) ≡ suc (length rows) + k = omega arith in
    ap (λ ds. record { number = k; row = r } ∷ ds) (push_deadline rows row (k + 1)) ∙ rw more refl

pub push_motion : (ms : List MotionRecord) (m : MotionRecord) (k : ℕ) → numbered_motions k (ms ++ m ∷ []) ≡ numbered_motions k ms ++ record { number = length ms + k; served = m.served; need = m.need; hearing = m.hearing } ∷ []
push_motion [] m k = rw zero-add refl
push_motion (x ∷ ms) m k =
    let more : length ms + (k + 1) ≡ suc (length ms) + k = omega arith in
    ap (λ ds. record { number = k; served = x.served; need = x.need; hearing = x.hearing } ∷ ds) (push_motion ms m (k + 1)) ∙ rw more refl

-- a change of the row of a number
abbrev pub with_row : (number : ℕ) → (DeadlineRowView → DeadlineRowView) → List NumberedDeadline → List NumberedDeadline
with_row number change rows = map (λ (d : NumberedDeadline). if d.number == number then record d { row = change d.row } else d) rows

-- no row has that number
pub with_row-above : (change : DeadlineRowView → DeadlineRowView) (rows : List DeadlineRowView) (n k : ℕ) → n < k → with_row n change (numbered_deadlines k rows) ≡ numbered_deadlines k rows
with_row-above change [] n k below = refl
with_row-above change (r ∷ rows) n k below =
    let other : (k == n) ≡ false = ne_eqb k n (omega arith) in
    rw other (ap (λ ds. record { number = k; row = r } ∷ ds) (with_row-above change rows n (k + 1) (omega arith)))

pub with_row-at : (change : DeadlineRowView → DeadlineRowView) (rows : List DeadlineRowView) (n k i : ℕ) (d : DeadlineRowView) → n ≡ k + i → i < length rows → with_row n change (numbered_deadlines k rows) ≡ numbered_deadlines k (set rows i (change (get_or rows i d)))
with_row-at change [] n k i d e within = absurd (omega arith)
with_row-at change (r ∷ rows) n k zero d e within =
    let here : (k == n) ≡ true = eq-eqb k n (omega arith) in
    rw here (ap (λ ds. record { number = k; row = change r } ∷ ds) (with_row-above change rows n (k + 1) (omega arith)))
with_row-at change (r ∷ rows) n k (suc i) d e within =
    let other : (k == n) ≡ false = ne_eqb k n (omega arith) in
    rw other (ap (λ ds. record { number = k; row = r } ∷ ds) (with_row-at change rows n (k + 1) i d (omega arith) (omega arith)))

pub with_row-past : (change : DeadlineRowView → DeadlineRowView) (rows : List DeadlineRowView) (n k : ℕ) → k + length rows ≤ n → with_row n change (numbered_deadlines k rows) ≡ numbered_deadlines k rows
with_row-past change [] n k past = refl
with_row-past change (r ∷ rows) n k past =
    let other : (k == n) ≡ false = ne_eqb k n (omega arith) in
    rw other (ap (λ ds. record { number = k; row = r } ∷ ds) (with_row-past change rows n (k + 1) (omega arith)))

-- the same for the hearing of a motion
abbrev pub with_hearing_of : (number : ℕ) → Option Hearing → List NumberedMotion → List NumberedMotion
with_hearing_of number h ms = map (λ (m : NumberedMotion). if m.number == number then record m { hearing = h } else m) ms

pub with_hearing-above : (h : Option Hearing) (ms : List MotionRecord) (n k : ℕ) → n < k → with_hearing_of n h (numbered_motions k ms) ≡ numbered_motions k ms
with_hearing-above h [] n k below = refl
with_hearing-above h (m ∷ ms) n k below =
    let other : (k == n) ≡ false = ne_eqb k n (omega arith) in
    rw other (ap (λ xs. record { number = k; served = m.served; need = m.need; hearing = m.hearing } ∷ xs) (with_hearing-above h ms n (k + 1) (omega arith)))

pub with_hearing-past : (h : Option Hearing) (ms : List MotionRecord) (n k : ℕ) → k + length ms ≤ n → with_hearing_of n h (numbered_motions k ms) ≡ numbered_motions k ms
with_hearing-past h [] n k past = refl
with_hearing-past h (m ∷ ms) n k past =
    let other : (k == n) ≡ false = ne_eqb k n (omega arith) in
    rw other (ap (λ xs. record { number = k; served = m.served; need = m.need; hearing = m.hearing } ∷ xs) (with_hearing-past h ms n (k + 1) (omega arith)))

pub with_hearing-at : (h : Option Hearing) (ms : List MotionRecord) (n k i : ℕ) (d : MotionRecord) → n ≡ k + i → i < length ms → with_hearing_of n h (numbered_motions k ms) ≡ numbered_motions k (set ms i (record { served = (get_or ms i d).served; need = (get_or ms i d).need; hearing = h }))
with_hearing-at h [] n k i d e within = absurd (omega arith)
with_hearing-at h (m ∷ ms) n k zero d e within =
    let here : (k == n) ≡ true = eq-eqb k n (omega arith) in
    rw here (ap (λ xs. record { number = k; served = m.served; need = m.need; hearing = h } ∷ xs) (with_hearing-above h ms n (k + 1) (omega arith)))
with_hearing-at h (m ∷ ms) n k (suc i) d e within =
    let other : (k == n) ≡ false = ne_eqb k n (omega arith) in
    rw other (ap (λ xs. record { number = k; served = m.served; need = m.need; hearing = m.hearing } ∷ xs) (with_hearing-at h ms n (k + 1) i d (omega arith) (omega arith)))

-- as many numbered rows as rows
pub count_deadlines : (rows : List DeadlineRowView) (k : ℕ) → length (numbered_deadlines k rows) ≡ length rows
count_deadlines rows k = length-numbered_deadlines rows k

pub count_motions : (ms : List MotionRecord) (k : ℕ) → length (numbered_motions k ms) ≡ length ms
count_motions ms k = length-numbered_motions ms k

-- the row at a place of the list
pub at_place : (rows : List DeadlineRowView) (i : ℕ) (d : DeadlineRowView) → i < length rows → slice_get rows i ≡ Some (get_or rows i d)
at_place [] i d within = absurd (omega arith)
at_place (r ∷ rows) zero d within = refl
at_place (r ∷ rows) (suc i) d within = at_place rows i d (omega arith)

-- a row that is extended, or isn't
pub extended_or_not : (granted : Bool) (rows : List DeadlineRowView) (n : ℕ) (now next : DeadlineRowView) (grant : Grant) → 1 ≤ n → n ≤ length rows → now ≡ get_or rows (n - 1) now → next ≡ (if granted then with_grant now grant else now) → numbered_deadlines 1 (set rows (n - 1) next) ≡ (if granted then with_row n (λ row. with_grant row grant) (numbered_deadlines 1 rows) else numbered_deadlines 1 rows)
extended_or_not true rows n now next grant some within stands is =
    ap (λ (r : DeadlineRowView). numbered_deadlines 1 (set rows (n - 1) r)) (is ∙ ap (λ (r : DeadlineRowView). with_grant r grant) stands)
    ∙ sym (with_row-at (λ row. with_grant row grant) rows n 1 (n - 1) now (omega arith) (omega arith))
extended_or_not false rows n now next grant some within stands is =
    ap (λ (r : DeadlineRowView). numbered_deadlines 1 (set rows (n - 1) r)) (is ∙ stands)
    ∙ ap (numbered_deadlines 1) (set-get_or rows (n - 1) now)
