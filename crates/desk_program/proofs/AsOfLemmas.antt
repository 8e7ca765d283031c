-- The entries that had come by a moment.
use Rattle.std.proofs.Common.{◌≡◌, ◌∙◌, ◌+◌, ◌<◌, ◌≤◌, ◌⊎◌, inl, inr, add-one, ℕ, suc, zero, List, [], ◌∷◌, ◌++◌, drop, get_or, length, length-append, length-take, min, take, take_all, refl, sym, ap, subst, append_assoc, arith}
use Rattle.std.specs.Prelude.{All, Vec}
use Rattle.std.specs.declared.alloc.Global.{Global}
use Rattle.std.proofs.lemmas.Bool.{cases_lt}
use Rattle.std.proofs.lemmas.List.{get_or-take, length-take-le, take-append-le, take-take}
use Rattle.std.proofs.lemmas.List.Elements.{All-get_or, All-more, All-nil, All-take}
use Rattle.desk_journal.specs.Words.{StampView, batch_of}
use Rattle.desk_entries.specs.Words.{note_in, row_entries, row_only}
use Rattle.desk_entries.proofs.CallerLemmas.{begun_batch, length_batch, row_entries-more, take_batch}
use Rattle.desk_program.specs.declared.as_of.Moment.{Moment}
use Rattle.desk_program.specs.declared.as_of.Moment.TheVariants.{Row, Second}
use Rattle.desk_program.specs.AsOf.{HadCome, IsKeptAt, WhatComesLaterChangesNothing}

-- what is so before each of some entries is so before each of fewer
rows_before : (number i j : ℕ) (entries : List (List ℕ)) → i ≤ j → HadCome (Row number) (take j entries) [] → HadCome (Row number) (take i entries) []
rows_before number i j entries le h = λ place begun within.
    let few : place < i = omega (arith, within, length-take i entries) in
    let here : place < length (take j entries) = omega (arith, within, le, length-take i entries, length-take j entries) in
    subst (λ (l : List (List ℕ)). length (row_entries l) < number) (take-take place j entries (omega (arith, few, le)) ∙ sym (take-take place i entries (omega (arith, few)))) (h place begun here)

times_before : (P : StampView → Type 0) (i j : ℕ) (stamps : List StampView) → i ≤ j → All P (drop 1 (take j stamps)) → All P (drop 1 (take i stamps))
times_before P zero j stamps le h = All-nil P
times_before P (suc i) j [] le h = All-nil P
times_before P (suc i) zero (stamp ∷ stamps) le h = absurd (omega (arith, le))
times_before P (suc i) (suc j) (stamp ∷ stamps) le h = subst (All P) (take-take i j stamps (omega (arith, le))) (All-take P i (take j stamps) h)

-- what had come is so of fewer
pub had_come_before : (moment : Moment) (entries : List (List ℕ)) (stamps : List StampView) (i j : ℕ) → i ≤ j → HadCome moment (take j entries) (take j stamps) → HadCome moment (take i entries) (take i stamps)
had_come_before (Row number) entries stamps i j le h = rows_before number i j entries le h
had_come_before (Second second) entries stamps i j le h = times_before (λ (stamp : StampView). stamp.time ≤ second) i j stamps le h

-- where the next one hadn't come
pub kept_here : (moment : Moment) (entries : List (List ℕ)) (stamps : List StampView) (count : ℕ) → count ≤ length entries → HadCome moment (take count entries) (take count stamps)
    → (HadCome moment (take (count + 1) entries) (take (count + 1) stamps) → ⊥) → IsKeptAt moment entries stamps count
kept_here moment entries stamps count within had next = record {
  within = within;
  had_come = had;
  longest = λ more least h. by more h (cases_lt count more);
}
  where
    by : (more : ℕ) → HadCome moment (take more entries) (take more stamps) → (count < more) ⊎ (more ≤ count) → more ≤ count
    by more h (inl lt) = absurd (next (had_come_before moment entries stamps (count + 1) more (omega (arith, lt)) h))
    by more h (inr le) = le

-- where all had come
pub kept_all : (moment : Moment) (entries : List (List ℕ)) (stamps : List StampView) (count : ℕ) → count ≡ length entries → HadCome moment (take count entries) (take count stamps) → IsKeptAt moment entries stamps count
kept_all moment entries stamps count is had = record { within = omega (arith, is); had_come = had; longest = λ more least h. omega (arith, is, least) }

-- the first of what comes after some
one_more : {A : Type 0} (some : List A) (x : A) (more : List A) (n : ℕ) → n ≡ length some + 1 → take n (some ++ x ∷ more) ≡ some ++ x ∷ []
one_more some x more n is =
    ap (take n) (sym (append_assoc some (x ∷ []) more))
    ∙ take-append-le n (some ++ x ∷ []) more (omega (arith, is, length-append some (x ∷ [])))
    ∙ take_all n (some ++ x ∷ []) (omega (arith, is, length-append some (x ∷ [])))

-- what comes later changes nothing
pub later_changes_nothing : WhatComesLaterChangesNothing
later_changes_nothing moment entries stamps entry stamp later later_stamps count same after kept = record {
  within = omega (arith, kept.within, length-append entries (entry ∷ later));
  had_come = here count kept.within kept.had_come;
  longest = λ more least h. by more h (cases_lt (length entries) more);
}
  where
    here : (n : ℕ) → n ≤ length entries → HadCome moment (take n entries) (take n stamps) → HadCome moment (take n (entries ++ entry ∷ later)) (take n (stamps ++ stamp ∷ later_stamps))
    here n le h =
        subst (λ (l : List (List ℕ)). HadCome moment l (take n (stamps ++ stamp ∷ later_stamps))) (sym (take-append-le n entries (entry ∷ later) le))
        (subst (λ (l : List StampView). HadCome moment (take n entries) l) (sym (take-append-le n stamps (stamp ∷ later_stamps) (omega (arith, le, same)))) h)

    back : (n : ℕ) → n ≤ length entries → HadCome moment (take n (entries ++ entry ∷ later)) (take n (stamps ++ stamp ∷ later_stamps)) → HadCome moment (take n entries) (take n stamps)
    back n le h =
        subst (λ (l : List (List ℕ)). HadCome moment l (take n stamps)) (take-append-le n entries (entry ∷ later) le)
        (subst (λ (l : List StampView). HadCome moment (take n (entries ++ entry ∷ later)) l) (take-append-le n stamps (stamp ∷ later_stamps) (omega (arith, le, same))) h)

    past : HadCome moment (take (length entries + 1) (entries ++ entry ∷ later)) (take (length entries + 1) (stamps ++ stamp ∷ later_stamps)) → ⊥
    past h =
        after (subst (λ (l : List (List ℕ)). HadCome moment l (stamps ++ stamp ∷ [])) (one_more entries entry later (length entries + 1) refl)
        (subst (λ (l : List StampView). HadCome moment (take (length entries + 1) (entries ++ entry ∷ later)) l) (one_more stamps stamp later_stamps (length entries + 1) (omega (arith, same))) h))

    by : (more : ℕ) → HadCome moment (take more (entries ++ entry ∷ later)) (take more (stamps ++ stamp ∷ later_stamps)) → (length entries < more) ⊎ (more ≤ length entries) → more ≤ count
    by more h (inl lt) = absurd (past (had_come_before moment (entries ++ entry ∷ later) (stamps ++ stamp ∷ later_stamps) (length entries + 1) more (omega (arith, lt)) h))
    by more h (inr le) = kept.longest more le (back more le h)

-- a beginning of a journal's entries
pub batch_taken : (entries : List (Vec ℕ Global)) (n : ℕ) → take n (batch_of entries) ≡ batch_of (take n entries)
batch_taken entries zero = refl
batch_taken [] (suc n) = refl
batch_taken (entry ∷ entries) (suc n) = ap (λ (l : List (List ℕ)). entry.items ∷ l) (batch_taken entries n)

-- the rows of one entry more
pub rows_counted : (entries : List (Vec ℕ Global)) (place : ℕ) (entry : Vec ℕ Global) → 1 ≤ place → place < length entries → entry ≡ get_or entries place entry
    → length (row_entries (batch_of (take (place + 1) entries))) ≡ length (row_entries (batch_of (take place entries))) + length (row_only (note_in entry.items) entry.items)
rows_counted entries place entry begun lt is =
    let kept : List (List ℕ) = batch_of (take place entries) in
    ap (λ (l : List (List ℕ)). length (row_entries l)) (take_batch entries place entry lt is)
    ∙ ap length (row_entries-more kept entry.items (begun_batch entries place begun lt))
    ∙ length-append (row_entries kept) (row_only (note_in entry.items) entry.items)

-- no row more than the number says comes before one entry more, where fewer came before it
pub one_further : (number : ℕ) (entries : List (Vec ℕ Global)) (place : ℕ) → place < length entries → length (row_entries (batch_of (take place entries))) < number
    → HadCome (Row number) (batch_of (take place entries)) [] → HadCome (Row number) (batch_of (take (place + 1) entries)) []
one_further number entries place within fewer had = λ n begun lt. by n begun lt (cases_lt n place)
  where
    whole : (k : ℕ) → take k (batch_of entries) ≡ batch_of (take k entries)
    whole k = batch_taken entries k

    long : (k : ℕ) → length (batch_of (take k entries)) ≡ min k (length (batch_of entries))
    long k = ap length (sym (whole k)) ∙ length-take k (batch_of entries)

    cut : (n k : ℕ) → n ≤ k → take n (batch_of (take k entries)) ≡ batch_of (take n entries)
    cut n k le = ap (take n) (sym (whole k)) ∙ take-take n k (batch_of entries) le ∙ whole n

    by : (n : ℕ) → 1 ≤ n → n < length (batch_of (take (place + 1) entries)) → (n < place) ⊎ (place ≤ n) → length (row_entries (take n (batch_of (take (place + 1) entries)))) < number
    by n begun lt (inl few) =
        subst (λ (l : List (List ℕ)). length (row_entries l) < number) (cut n place (omega (arith, few)) ∙ sym (cut n (place + 1) (omega (arith, few))))
        (had n begun (omega (arith, few, lt, long place, long (place + 1))))
    by n begun lt (inr more) =
        let is : n ≡ place = omega (arith, more, lt, long (place + 1)) in
        subst (λ (l : List (List ℕ)). length (row_entries l) < number) (sym (cut n (place + 1) (omega (arith, is)) ∙ ap (λ (k : ℕ). batch_of (take k entries)) is)) fewer

-- where as many came before it, it came later
pub no_further : (number : ℕ) (entries : List (Vec ℕ Global)) (place : ℕ) → 1 ≤ place → place < length entries → length (row_entries (batch_of (take place entries))) ≡ number → HadCome (Row number) (take (place + 1) (batch_of entries)) [] → ⊥
no_further number entries place begun within is had =
    let long : length (take (place + 1) (batch_of entries)) ≡ min (place + 1) (length (batch_of entries)) = length-take (place + 1) (batch_of entries) in
    let cut : take place (take (place + 1) (batch_of entries)) ≡ batch_of (take place entries) = take-take place (place + 1) (batch_of entries) (omega arith) ∙ batch_taken entries place in
    let fewer : length (row_entries (batch_of (take place entries))) < number =
    subst (λ (l : List (List ℕ)). length (row_entries l) < number) cut (had place begun (omega (arith, long, within, length_batch entries))) in
    absurd (omega (arith, fewer, is))

-- the times of one entry more
pub times_more : (P : StampView → Type 0) (stamps : List StampView) (place : ℕ) (stamp : StampView) → 1 ≤ place → place < length stamps → stamp ≡ get_or stamps place stamp
    → All P (drop 1 (take place stamps)) → P stamp → All P (drop 1 (take (place + 1) stamps))
times_more P [] place stamp begun lt is all here = absurd (omega (arith, lt))
times_more P (first ∷ stamps) zero stamp begun lt is all here = absurd (omega (arith, begun))
times_more P (first ∷ stamps) (suc place) stamp begun lt is all here =
    subst (λ (n : ℕ). All P (drop 1 (take n (first ∷ stamps)))) (sym (add-one (suc place)))
    (subst (λ (n : ℕ). All P (take n stamps)) (add-one place) (All-more P stamps place stamp (omega (arith, lt)) all (subst P is here)))

-- and of the last among them
pub time_of_last : (P : StampView → Type 0) (stamps : List StampView) (place : ℕ) (stamp : StampView) → 1 ≤ place → place < length stamps → stamp ≡ get_or stamps place stamp
    → All P (drop 1 (take (place + 1) stamps)) → P stamp
time_of_last P [] place stamp begun lt is all = absurd (omega (arith, lt))
time_of_last P (first ∷ stamps) zero stamp begun lt is all = absurd (omega (arith, begun))
time_of_last P (first ∷ stamps) (suc place) stamp begun lt is all =
    let each : All P (take (suc place) stamps) = subst (λ (n : ℕ). All P (drop 1 (take n (first ∷ stamps)))) (add-one (suc place)) all in
    let short : length (take (suc place) stamps) ≡ suc place = length-take-le (suc place) stamps (omega (arith, lt)) in
    subst P (get_or-take (suc place) stamps place stamp (omega arith) ∙ sym is) (All-get_or P (take (suc place) stamps) place stamp (omega (arith, short)) each)

-- where no more are left of the entries or of the stamps
pub times_all : (P : StampView → Type 0) (stamps : List StampView) (place count : ℕ) → min count (length stamps) ≤ place → All P (drop 1 (take place stamps)) → All P (drop 1 (take count stamps))
times_all P stamps place count le all = by (cases_lt place count)
  where
    by : (place < count) ⊎ (count ≤ place) → All P (drop 1 (take count stamps))
    by (inl lt) =
        let here : take place stamps ≡ stamps = take_all place stamps (omega (arith, le, lt)) in
        let there : take count stamps ≡ stamps = take_all count stamps (omega (arith, le, lt)) in
        subst (λ (l : List StampView). All P (drop 1 l)) (here ∙ sym there) all
    by (inr ge) = times_before P count place stamps ge all
