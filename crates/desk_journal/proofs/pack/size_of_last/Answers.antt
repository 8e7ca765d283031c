use Rattle.std.proofs.Common.{ℕ, List, ◌++◌, [], ◌∷◌, length, Vec, sym, ◌∙◌, ap, arith, length-append}
use Rattle.std.specs.declared.alloc.Global.{Global}
use Rattle.std.proofs.lemmas.List.{map-append}
use Rattle.desk_journal.specs.Batches.{frames_after}
use Rattle.desk_journal.specs.Frames.{frame_of, size_of_last}
use Rattle.desk_journal.proofs.pack.size_of_last.Goals as goal
use Rattle.desk_journal.proofs.FrameLemmas.{frame_of-content, size_of_last-append}

pub returns-in-Some : goal.returns-in-Some
returns-in-Some c = λ durable.
    let front = c.args.stamp.now in
    let v = c.in-Some.entry.now in
    let rest = c.in-Some.field-0-1.now in
    sym (
    ap (λ (l : List (Vec ℕ Global)). size_of_last c.args.earlier (frames_after durable front l)) c.in-Some.ensures.cases.0
    ∙ ap (size_of_last c.args.earlier) (map-append (λ (w : Vec ℕ Global). frame_of durable (front ++ w.items)) rest (v ∷ []))
    ∙ size_of_last-append c.args.earlier (frames_after durable front rest) (frames_after durable front (v ∷ []))
    ∙ ap length (frame_of-content durable (front ++ v.items))
    ∙ omega (arith, length-append front v.items, c.len.ensures)
    )
