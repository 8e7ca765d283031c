use Rattle.std.proofs.Common.{◌≡◌, ◌+◌, List, ℕ, [], ◌∷◌, ◌++◌, length, inl, inr, subst, arith, append_assoc, length-append}
use Rattle.desk_journal.specs.Disks.{IsDurable}
use Rattle.desk_journal.proofs.publish.publish.Goals as goal

-- where the file ends
two_more : (front : List ℕ) (end : ℕ) → length front ≡ end → length (front ++ 45 ∷ 45 ∷ []) ≡ end + 2
two_more front end is = omega (arith, length-append front (45 ∷ 45 ∷ []))

pub returns-in-Ok-clause-durable : goal.returns-in-Ok-clause-durable
returns-in-Ok-clause-durable g c = λ front is was.
    c.open_latch.ensures.durable front c.args.behind.now 45 45 is
    (subst (λ (file : List ℕ). IsDurable g.D.Disk file c.write_end.new.disk) (append_assoc front (45 ∷ 45 ∷ []) c.args.behind.now)
    (c.in-Ok.ensures.durable (front ++ 45 ∷ 45 ∷ []) (two_more front c.args.end is) was))

pub returns-in-Ok-clause-crash : goal.returns-in-Ok-clause-crash
returns-in-Ok-clause-crash g c = λ front is was x left.
    inr (c.open_latch.ensures.crash front c.args.behind.now 45 45 is
    (subst (λ (file : List ℕ). IsDurable g.D.Disk file c.write_end.new.disk) (append_assoc front (45 ∷ 45 ∷ []) c.args.behind.now)
    (c.in-Ok.ensures.durable (front ++ 45 ∷ 45 ∷ []) (two_more front c.args.end is) was)) x left)

pub returns-in-Err-clause-crash : goal.returns-in-Err-clause-crash
returns-in-Err-clause-crash g c = λ front is was x left.
    inl (c.write_end.ensures.crash (front ++ 45 ∷ 45 ∷ []) (two_more front c.args.end is) was x left)
