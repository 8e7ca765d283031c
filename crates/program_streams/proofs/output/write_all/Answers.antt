use Rattle.std.proofs.Common.{◌≡◌, ◌++◌, ◌∙◌, sym, ap, take, drop, append_assoc, take-append-drop, arith, false}
use Rattle.std.proofs.lemmas.Grind.{common_steps}
use Rattle.std.proofs.KnownBytes.{Appends-trans}
use Rattle.program_streams.specs.Watched.{has_failed}
use Rattle.program_streams.proofs.output.write_all.Goals as goal

pub loop-rest-preserved : goal.loop-rest-preserved
loop-rest-preserved g c =
    let (front, whole, held, working, again) = c.loop-rest.invariant in
    let taken = take c.in-Ok.count c.loop-rest.rest.now in
    let split = ap (λ l. front ++ l) (sym (take-append-drop c.in-Ok.count c.loop-rest.rest.now)) ∙ sym (append_assoc front taken (drop c.in-Ok.count c.loop-rest.rest.now)) in
    let still : has_failed c.write.new.self ≡ false = grind (arith, common_steps) in
    let later = (rw working at c.write.ensures.again) ∙ again in
    (front ++ taken, rw c.split_at.ensures.back (whole ∙ split), Appends-trans _ _ _ front taken held c.in-Ok.ensures.bytes, still, later)
