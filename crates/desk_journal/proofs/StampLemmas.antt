-- What a content is made of, and the times of stamps.
use Rattle.std.proofs.Common.{◌≡◌, ℕ, ◌+◌, ◌<◌, ◌≤◌, ◌^◌, List, [], ◌∷◌, ◌++◌, length, take, drop, Vec, refl, sym, ◌∙◌, ap, subst, arith, append_assoc, length-append}
use Rattle.std.specs.Prelude.{All, max}
use Rattle.std.specs.declared.alloc.Global.{Global}
use Rattle.std.proofs.lemmas.List.{take_at, drop_at, map-append, append-nil}
use Rattle.std.proofs.lemmas.List.Elements.{All-append, All-cons, All-nil}
use Rattle.std.proofs.lemmas.Nat.{from_be_bytes-to_be_bytes_8}
use Rattle.std.specs.Int.{w64, to_be_bytes}
use Rattle.desk_journal.specs.Stamps.{AddsStamps, StampView, IsStamp, HasStamp, IsInOrder, stamp_bytes, content_of, entry_in, stamp_in, time_of, time_after}
use Rattle.desk_journal.specs.Frames.{Frame, frame_of, stamps_of, last_time}
use Rattle.desk_journal.specs.Batches.{frames_of, TimesNeverGoBack}

pub length-stamp_bytes : (stamp : StampView) → length (stamp_bytes stamp) ≡ 9 + length stamp.account
length-stamp_bytes stamp = omega (arith, length-append (to_be_bytes w64 stamp.time) stamp.account)

pub entry_in-content_of : (stamp : StampView) (entry : List ℕ) → entry_in (content_of stamp entry) ≡ entry
entry_in-content_of stamp entry = drop_at (stamp_bytes stamp) entry (8 + length stamp.account + 1) (omega (arith, length-stamp_bytes stamp))

pub HasStamp-content_of : (stamp : StampView) (entry : List ℕ) → IsStamp stamp → HasStamp (content_of stamp entry)
HasStamp-content_of stamp entry is = (omega arith, omega (arith, is.1), omega (arith, length-append (stamp_bytes stamp) entry, length-stamp_bytes stamp))

time_there : (n : ℕ) → n < 2 ^ 64 → time_of (to_be_bytes w64 n) ≡ n
unfolding time_of
time_there n small = from_be_bytes-to_be_bytes_8 n small

pub stamp_in-content_of : (stamp : StampView) (entry : List ℕ) → IsStamp stamp → stamp_in (content_of stamp entry) ≡ stamp
stamp_in-content_of stamp entry is = λ i. record { time = times i; account = accounts i }
  where
    times : time_of (take 8 (drop 1 (content_of stamp entry))) ≡ stamp.time
    times =
        ap (λ (l : List ℕ). time_of (take 8 l)) (drop_at ((8 + length stamp.account) ∷ []) ((to_be_bytes w64 stamp.time ++ stamp.account) ++ entry) 1 refl)
        ∙ ap (λ (l : List ℕ). time_of (take 8 l)) (append_assoc (to_be_bytes w64 stamp.time) stamp.account entry)
        ∙ ap time_of (take_at (to_be_bytes w64 stamp.time) (stamp.account ++ entry) 8 refl) ∙ time_there stamp.time is.0

    accounts : drop 9 (take (8 + length stamp.account + 1) (content_of stamp entry)) ≡ stamp.account
    accounts =
        ap (λ (l : List ℕ). drop 9 l) (take_at (stamp_bytes stamp) entry (8 + length stamp.account + 1) (omega (arith, length-stamp_bytes stamp)))
        ∙ drop_at ((8 + length stamp.account) ∷ to_be_bytes w64 stamp.time) stamp.account 9 refl

-- the times of a list that is joined
pub time_after-append : (earlier : ℕ) (xs ys : List StampView) → time_after earlier (xs ++ ys) ≡ time_after (time_after earlier xs) ys
time_after-append earlier [] ys = refl
time_after-append earlier (x ∷ xs) ys = time_after-append x.time xs ys

in_order-append : (earlier : ℕ) (xs ys : List StampView) → IsInOrder earlier xs → IsInOrder (time_after earlier xs) ys → IsInOrder earlier (xs ++ ys)
in_order-append earlier [] ys first second = second
in_order-append earlier (x ∷ xs) ys first second = (first.0, in_order-append x.time xs ys first.1 second)

-- a batch has one stamp
pub after_batch : (earlier durable : ℕ) (stamp : StampView) (batch : List (Vec ℕ Global)) → IsStamp stamp → earlier ≤ stamp.time → time_after earlier (stamps_of (frames_of durable stamp batch)) ≤ stamp.time
unfolding frame_of
after_batch earlier durable stamp [] is before = before
after_batch earlier durable stamp (v ∷ batch) is before =
    let same : (stamp_in (content_of stamp v.items)).time ≡ stamp.time = ap (λ (s : StampView). s.time) (stamp_in-content_of stamp v.items is) in
    after_batch (stamp_in (content_of stamp v.items)).time durable stamp batch is (omega (arith, same))

batch_in_order : (earlier durable : ℕ) (stamp : StampView) (batch : List (Vec ℕ Global)) → IsStamp stamp → earlier ≤ stamp.time → IsInOrder earlier (stamps_of (frames_of durable stamp batch))
unfolding frame_of
batch_in_order earlier durable stamp [] is before = tt
batch_in_order earlier durable stamp (v ∷ batch) is before =
    let same : (stamp_in (content_of stamp v.items)).time ≡ stamp.time = ap (λ (s : StampView). s.time) (stamp_in-content_of stamp v.items is) in
    (omega (arith, same), batch_in_order (stamp_in (content_of stamp v.items)).time durable stamp batch is (omega (arith, same)))

batch_accounts : (durable : ℕ) (stamp : StampView) (batch : List (Vec ℕ Global)) → IsStamp stamp → All (λ (s : StampView). s.account ≡ stamp.account) (stamps_of (frames_of durable stamp batch))
unfolding frame_of
batch_accounts durable stamp [] is = All-nil (λ (s : StampView). s.account ≡ stamp.account)
batch_accounts durable stamp (v ∷ batch) is =
    All-cons (λ (s : StampView). s.account ≡ stamp.account) (stamp_in (content_of stamp v.items)) (stamps_of (frames_of durable stamp batch))
    (ap (λ (s : StampView). s.account) (stamp_in-content_of stamp v.items is)) (batch_accounts durable stamp batch is)

stamps-append : (fs gs : List Frame) → stamps_of (fs ++ gs) ≡ stamps_of fs ++ stamps_of gs
stamps-append fs gs = map-append (λ (f : Frame). stamp_in f.content) fs gs

-- the time of the last of them all
pub last_time-append : (fs : List Frame) (durable : ℕ) (stamp : StampView) (batch : List (Vec ℕ Global)) → IsStamp stamp → last_time fs ≤ stamp.time
    → last_time (fs ++ frames_of durable stamp batch) ≤ stamp.time
last_time-append fs durable stamp batch is before =
    subst (λ (n : ℕ). n ≤ stamp.time)
    (sym (ap (time_after 0) (stamps-append fs (frames_of durable stamp batch)) ∙ time_after-append 0 (stamps_of fs) (stamps_of (frames_of durable stamp batch))))
    (after_batch (last_time fs) durable stamp batch is before)

-- the later of two times stays it
time_after-later : (earlier later : ℕ) (stamps : List StampView) → earlier ≤ later → time_after earlier stamps ≤ time_after later stamps
time_after-later earlier later [] before = before
time_after-later earlier later (s ∷ stamps) before = omega arith

last_time-more : (fs gs : List Frame) → last_time (fs ++ gs) ≡ time_after (last_time fs) (stamps_of gs)
last_time-more fs gs = ap (time_after 0) (stamps-append fs gs) ∙ time_after-append 0 (stamps_of fs) (stamps_of gs)

-- a time that isn't before that of frames, once others have come after them
pub time_on : (fs more : List Frame) (earlier next : ℕ) → last_time fs ≤ earlier → next ≡ time_after earlier (stamps_of more) → last_time (fs ++ more) ≤ next
time_on fs more earlier next before next_is =
    omega (arith, last_time-more fs more, time_after-later (last_time fs) earlier (stamps_of more) before, next_is)

-- the latest of a time that isn't before `earlier` and of what comes after that
pub latest : (fs more : List Frame) (earlier time : ℕ) → last_time fs ≤ earlier → earlier ≤ time → max time (last_time (fs ++ more)) ≡ max time (time_after earlier (stamps_of more))
latest fs more earlier time before later = ap (max time) (last_time-more fs more) ∙ sym (by more)
  where
    by : (gs : List Frame) → max time (time_after earlier (stamps_of gs)) ≡ max time (time_after (last_time fs) (stamps_of gs))
    by [] = omega arith
    by (g ∷ gs) = refl

pub times_never_go_back : TimesNeverGoBack
times_never_go_back fs durable stamp batch is before ordered =
    subst (IsInOrder 0) (sym (stamps-append fs (frames_of durable stamp batch)))
    (in_order-append 0 (stamps_of fs) (stamps_of (frames_of durable stamp batch)) ordered (batch_in_order (last_time fs) durable stamp batch is before))

-- what a batch adds, and what two calls add
pub batch_adds : (fs : List Frame) (durable : ℕ) (stamp : StampView) (batch : List (Vec ℕ Global)) → IsStamp stamp → last_time fs ≤ stamp.time → AddsStamps stamp.account (stamps_of fs) (stamps_of (fs ++ frames_of durable stamp batch))
batch_adds fs durable stamp batch is before = record {
  more = stamps_of (frames_of durable stamp batch);
  parts = stamps-append fs (frames_of durable stamp batch);
  accounts = batch_accounts durable stamp batch is;
  order = batch_in_order (last_time fs) durable stamp batch is before;
}

pub none_added : (account : List ℕ) (stamps : List StampView) → AddsStamps account stamps stamps
none_added account stamps = record { more = []; parts = sym (append-nil stamps); accounts = All-nil (λ (s : StampView). s.account ≡ account); order = tt }

pub added_more : (account : List ℕ) (before between after : List StampView) → AddsStamps account before between → AddsStamps account between after → AddsStamps account before after
added_more account before between after one two = record {
  more = one.more ++ two.more;
  parts = two.parts ∙ ap (λ (l : List StampView). l ++ two.more) one.parts ∙ append_assoc before one.more two.more;
  accounts = All-append (λ (s : StampView). s.account ≡ account) one.more two.more one.accounts two.accounts;
  order = in_order-append (time_after 0 before) one.more two.more one.order (subst (λ (n : ℕ). IsInOrder n two.more) (ap (time_after 0) one.parts ∙ time_after-append 0 before one.more) two.order);
}
