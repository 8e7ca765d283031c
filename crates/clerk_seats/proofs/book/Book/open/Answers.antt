use Rattle.std.proofs.Common.{◌∙◌, sym}
use Rattle.clerk_seats.proofs.BookLemmas.{book_opened}
use Rattle.clerk_seats.proofs.book.Book.open.Goals as goal

pub invariant_of-result : goal.invariant_of-result
invariant_of-result g c =
    book_opened g.L.NamesOffice.history g.L.NamesOffice.setup c.in_ok-parts.parts c.warm.new.self c.new-2.result.items c.new-store.result c.args.counted.total
    (c.warm.ensures ∙ c.requires.publisher) c.new-2.ensures.items (c.in_ok-parts.ensures.value ∙ sym c.requires.court) c.new-store.ensures.owner c.new-store.ensures.opening c.requires.counted
