-- `book::read` meets its contract: what was admitted is an accepted book. Assumes nothing.
use Rattle.book.specs.Current.{current}
use Rattle.book.proofs.AcceptedBook.{shaped, accepted_book_by}
use Rattle.book.proofs.read.Goals as goal

pub invariant_of-result : goal.invariant_of-result
invariant_of-result c =
    let admitted = c.in_ok-accepted.ensures in
    record { accepted = rw admitted.same_words (accepted_book_by current _ _ shaped _ admitted.value) }
