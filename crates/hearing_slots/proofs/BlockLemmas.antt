-- Lists of blocks, in which a block is looked for, put in or changed.
use Rattle.std.proofs.Common.{◌≡◌, ℕ, suc, ◌+◌, ◌<◌, ◌≤◌, ℤ, ◌<ℤ◌, Option, List, [], ◌∷◌, ◌++◌, length, get_or, set, take, drop, sym, ap, ◌∙◌, subst, arith, inl, inr, drop-cons, take-append-drop}
use Rattle.std.specs.List.{All, AllWithin, insert}
use Rattle.std.proofs.lemmas.Int.{ints}
use Rattle.std.proofs.lemmas.Bool.{cases_eq}
use Rattle.std.proofs.lemmas.List.{get_or-set_same, get_or-set_other, length-set, set_split}
use Rattle.std.proofs.lemmas.List.Concat.{flat_map-append}
use Rattle.std.proofs.lemmas.List.Elements.{All-append, All-head, All-nil, All-set, All-tail, All-take, All-drop}
use Rattle.hearing_slots.specs.declared.booking.Booking.{Booking}
use Rattle.hearing_slots.specs.Booking.{IsWithinDay}
use Rattle.hearing_slots.specs.Calendar.{IsCalendar, IsConflict, IsFree, on_day, with_booking, without_motion}
use Rattle.hearing_slots.specs.Inside.Blocks.{AreBlocks, BlockView, IsBlockAt, IsGapForBlock, LiesIn, all_in, block_of}
use Rattle.hearing_slots.proofs.Filters.{All-front, All-back}
use Rattle.hearing_slots.proofs.Inserts.{All-insert, AllPairs-insert}
use Rattle.hearing_slots.proofs.BlockDays.{all_here, on_day-around, own-with_booking, own-without_motion, with_booking-around, without_motion-around}

abbrev IsOwn : BlockView → Type 0
IsOwn b = All (λ x. block_of x.day ≡ b.number) b.bookings

-- what holds of the bookings of each block holds of all
all-all_in : (P : Booking → Type 0) (bs : List BlockView) → All (λ b. All P b.bookings) bs → All P (all_in bs)
all-all_in P [] h = All-nil P
all-all_in P (b ∷ bs) h =
    All-append P b.bookings (all_in bs) (All-head (λ (x : BlockView). All P x.bookings) b bs h) (all-all_in P bs (All-tail (λ (x : BlockView). All P x.bookings) b bs h))

-- the bookings of blocks with lesser numbers, and with greater ones
below : (bs : List BlockView) (number : ℤ) → All IsOwn bs → All (λ b. b.number <ℤ number) bs → All (λ x. block_of x.day <ℤ number) (all_in bs)
below bs number own less =
    all-all_in (λ x. block_of x.day <ℤ number) bs (λ k d within j e inside. subst (λ (n : ℤ). n <ℤ number) (sym (own k d within j e inside)) (less k d within))

above : (bs : List BlockView) (number : ℤ) → All IsOwn bs → All (λ b. number <ℤ b.number) bs → All (λ x. number <ℤ block_of x.day) (all_in bs)
above bs number own more =
    all-all_in (λ x. number <ℤ block_of x.day) bs (λ k d within j e inside. subst (λ (n : ℤ). number <ℤ n) (sym (own k d within j e inside)) (more k d within))

-- the block of that number, with no bookings
abbrev pub no_block : ℤ → BlockView
no_block number = record { number = number; bookings = [] }

-- it changes no booking
pub opened_same : (bs : List BlockView) (number : ℤ) (place : ℕ) → all_in (insert bs place (no_block number)) ≡ all_in bs
opened_same bs number place =
    flat_map-append (λ (b : BlockView). b.bookings) (take place bs) (no_block number ∷ drop place bs)
    ∙ sym (flat_map-append (λ (b : BlockView). b.bookings) (take place bs) (drop place bs))
    ∙ ap all_in (take-append-drop place bs)

module _ (bs : List BlockView) (number : ℤ) (place : ℕ) (blocks : AreBlocks bs) where
  before : AllWithin (λ b. b.number <ℤ number) bs 0 place → All (λ x. block_of x.day <ℤ number) (all_in (take place bs))
  before less = below (take place bs) number (All-take IsOwn place bs blocks.own) (All-front (λ b. b.number <ℤ number) bs place less)

  after : (from : ℕ) → from ≤ length bs → AllWithin (λ b. number <ℤ b.number) bs from (length bs) → All (λ x. number <ℤ block_of x.day) (all_in (drop from bs))
  after from le more = above (drop from bs) number (All-drop IsOwn from bs blocks.own) (All-back (λ b. number <ℤ b.number) bs from le more)

  after_next : IsBlockAt bs number place → All (λ x. number <ℤ block_of x.day) (all_in (drop (suc place) bs))
  after_next at =
      let next : place + 1 ≡ suc place = omega arith in
      let within : suc place ≤ length bs = omega (arith, at.in_range) in
      after (suc place) within (subst (λ (n : ℕ). AllWithin (λ (b : BlockView). number <ℤ b.number) bs n (length bs)) next at.behind)

  -- the bookings of the blocks before the place, of the one there, and of those after it
  cut : (e : BlockView) → place < length bs → all_in bs ≡ all_in (take place bs) ++ ((get_or bs place e).bookings ++ all_in (drop (suc place) bs))
  cut e within =
      ap all_in (sym (take-append-drop place bs) ∙ ap (λ ys. take place bs ++ ys) (drop-cons bs place e within))
      ∙ flat_map-append (λ (b : BlockView). b.bookings) (take place bs) (get_or bs place e ∷ drop (suc place) bs)

  changed : (new : BlockView) → place < length bs → all_in (set bs place new) ≡ all_in (take place bs) ++ (new.bookings ++ all_in (drop (suc place) bs))
  changed new within =
      ap all_in (set_split bs place new within)
      ∙ flat_map-append (λ (b : BlockView). b.bookings) (take place bs) (new ∷ drop (suc place) bs)

  -- they stay blocks where the one there is changed
  still_blocks : (new : BlockView) → IsBlockAt bs number place → new.number ≡ number → IsOwn new → AreBlocks (set bs place new)
  still_blocks new at same own =
      let numbers_stay : (k : ℕ) (d : BlockView) → (get_or (set bs place new) k d).number ≡ (get_or bs k d).number = λ k d. elim (cases_eq k place) [
        | inl here ↦ rw (here, get_or-set_same bs place new d at.in_range) (same ∙ sym (at.here d))
        | inr apart ↦ ap (λ (b : BlockView). b.number) (get_or-set_other bs place k new d apart)
      ] in
      record {
        rising = λ j k d less within.
            let inside : k < length bs = omega (arith, within, length-set bs place new) in
            let rises = blocks.rising j k d less inside in
            omega (arith, ints, rises, numbers_stay j d, numbers_stay k d);
        own = All-set IsOwn bs place new own blocks.own;
      }

  -- the bookings of a day of the block
  pub on_day-at : (e : BlockView) (day : ℤ) → IsBlockAt bs number place → block_of day ≡ number → on_day day (get_or bs place e).bookings ≡ on_day day (all_in bs)
  on_day-at e day at same =
      sym (ap (on_day day) (cut e at.in_range) ∙ on_day-around number (all_in (take place bs)) (all_in (drop (suc place) bs)) (before at.before) (after_next at) (get_or bs place e).bookings day same)

  -- there are none where there is no such block
  pub on_day-gap : (day : ℤ) → IsGapForBlock bs number place → block_of day ≡ number → [] ≡ on_day day (all_in bs)
  on_day-gap day gap same =
      let whole : all_in bs ≡ all_in (take place bs) ++ ([] ++ all_in (drop place bs)) = ap all_in (sym (take-append-drop place bs)) ∙ flat_map-append (λ (b : BlockView). b.bookings) (take place bs) (drop place bs) in
      sym (ap (on_day day) whole ∙ on_day-around number (all_in (take place bs)) (all_in (drop place bs)) (before gap.before) (after place gap.in_range gap.behind) [] day same)

  -- a block with no bookings is put into the gap
  pub opened_blocks : IsGapForBlock bs number place → AreBlocks (insert bs place (no_block number))
  opened_blocks gap = record {
    rising = AllPairs-insert (λ (x y : BlockView). x.number <ℤ y.number) bs place (no_block number) gap.in_range blocks.rising gap.before gap.behind;
    own = All-insert IsOwn bs place (no_block number) blocks.own (All-nil (λ x. block_of x.day ≡ number));
  }

  -- the block at the place is changed
  module _ (e : BlockView) (at : IsBlockAt bs number place) where
    own_here : All (λ x. block_of x.day ≡ number) (get_or bs place e).bookings
    own_here k d within = subst (λ (n : ℤ). block_of (get_or (get_or bs place e).bookings k d).day ≡ n) (at.here e) (blocks.own place e at.in_range k d within)

    -- a span that is free in all bookings is free in its bookings
    pub free_at : (day : ℤ) (first count : ℕ) (except : Option (ℕ × ℕ)) → IsFree (all_in bs) day first count except → IsFree (get_or bs place e).bookings day first count except
    free_at day first count except free =
        all_here (λ b. IsConflict day first count except b → ⊥) (all_in (take place bs)) (get_or bs place e).bookings (all_in (drop (suc place) bs)) (subst (λ (all : List Booking). IsFree all day first count except) (cut e at.in_range) free)

    -- a booking is put in
    pub put_blocks : (b : Booking) (new : BlockView) → block_of b.day ≡ number → new ≡ record (get_or bs place e) { bookings = with_booking b (get_or bs place e).bookings } → AreBlocks (set bs place new)
    put_blocks b new same is =
        still_blocks new at (ap (λ (x : BlockView). x.number) is ∙ at.here e) (subst IsOwn (sym is) (subst (λ (n : ℤ). All (λ x. block_of x.day ≡ n) (with_booking b (get_or bs place e).bookings)) (sym (at.here e)) (own-with_booking number b (get_or bs place e).bookings same own_here)))

    pub put_all : (b : Booking) (new : BlockView) → block_of b.day ≡ number → LiesIn number b.case b.motion (all_in bs) → new ≡ record (get_or bs place e) { bookings = with_booking b (get_or bs place e).bookings } → all_in (set bs place new) ≡ with_booking b (all_in bs)
    put_all b new same lies is =
        changed new at.in_range
        ∙ ap (λ (x : BlockView). all_in (take place bs) ++ (x.bookings ++ all_in (drop (suc place) bs))) is
        ∙ sym (ap (with_booking b) (cut e at.in_range) ∙ with_booking-around number (all_in (take place bs)) (all_in (drop (suc place) bs)) (before at.before) (after_next at) b (get_or bs place e).bookings same (subst (LiesIn number b.case b.motion) (cut e at.in_range) lies))

    -- a motion's booking is taken out
    pub taken_blocks : (case motion : ℕ) (new : BlockView) → new ≡ record (get_or bs place e) { bookings = without_motion case motion (get_or bs place e).bookings } → AreBlocks (set bs place new)
    taken_blocks case motion new is =
        still_blocks new at (ap (λ (x : BlockView). x.number) is ∙ at.here e) (subst IsOwn (sym is) (subst (λ (n : ℤ). All (λ x. block_of x.day ≡ n) (without_motion case motion (get_or bs place e).bookings)) (sym (at.here e)) (own-without_motion number case motion (get_or bs place e).bookings own_here)))

    pub taken_all : (case motion : ℕ) (new : BlockView) → LiesIn number case motion (all_in bs) → new ≡ record (get_or bs place e) { bookings = without_motion case motion (get_or bs place e).bookings } → all_in (set bs place new) ≡ without_motion case motion (all_in bs)
    taken_all case motion new lies is =
        changed new at.in_range
        ∙ ap (λ (x : BlockView). all_in (take place bs) ++ (x.bookings ++ all_in (drop (suc place) bs))) is
        ∙ sym (ap (without_motion case motion) (cut e at.in_range) ∙ without_motion-around number (all_in (take place bs)) (all_in (drop (suc place) bs)) (before at.before) (after_next at) case motion (get_or bs place e).bookings (subst (LiesIn number case motion) (cut e at.in_range) lies))

-- no blocks are blocks, and have no bookings
pub no_blocks : AreBlocks [] × IsCalendar []
no_blocks = (
  record { rising = λ i j d before within. absurd (omega arith); own = All-nil IsOwn },
  record {
    within_day = All-nil IsWithinDay;
    sorted = λ i j d before within. absurd (omega arith);
    apart = λ i j d before within. absurd (omega arith);
    once = λ i j d before within. absurd (omega arith);
  },
)
