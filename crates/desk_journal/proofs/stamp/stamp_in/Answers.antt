use Rattle.std.proofs.Common.{◌≡◌, ℕ, List, length, take, drop, ◌∙◌, ap, arith, length-drop}
use Rattle.std.proofs.lemmas.List.{take_all, length-take-le}
use Rattle.desk_journal.specs.Stamps.{stamp_size, time_of}
use Rattle.desk_journal.proofs.stamp.stamp_in.Goals as goal

pub returns-clause-stamp : goal.returns-clause-stamp
returns-clause-stamp c = c.new.ensures ∙ (λ i. record { time = times i; account = accounts i })
  where
    times : c.time_of.result ≡ time_of (take 8 (drop 1 c.args.content.now))
    times = c.time_of.ensures ∙ ap time_of (c.split_at-2.ensures.front ∙ ap (λ (l : List ℕ). take 8 l) c.split_at.ensures.back)

    read : c.in_ok-from_slice.field-0.items ≡ drop 9 (take (stamp_size c.args.content.now) c.args.content.now)
    read = c.in_ok-from_slice.ensures.items ∙ c.split_at-4.ensures.back ∙ ap (λ (l : List ℕ). drop 9 l) (c.split_at-3.ensures.front ∙ ap (λ (n : ℕ). take n c.args.content.now) c.size_of_stamp.ensures)

    accounts : take 200 c.in_ok-from_slice.field-0.items ≡ drop 9 (take (stamp_size c.args.content.now) c.args.content.now)
    accounts =
        take_all 200 c.in_ok-from_slice.field-0.items
        (omega (arith, ap length read, length-drop 9 (take (stamp_size c.args.content.now) c.args.content.now), length-take-le (stamp_size c.args.content.now) c.args.content.now c.requires.2, c.requires.1))
        ∙ read
