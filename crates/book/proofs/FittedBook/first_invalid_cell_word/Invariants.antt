-- `book::FittedBook::first_invalid_cell_word` meets its contract: the search has come to where cell i begins. Assumes nothing.
use Rattle.words.proofs.Steps.{Passed}
use Rattle.listing.specs.Layout.{cells}
use Rattle.book.specs.Layout.{book_size, entry_at}
use Rattle.book.specs.Check.{book_word_valid}
use Rattle.book.proofs.FittedBook.first_invalid_cell_word.Given as goal

abbrev pub invariant-loop-i : goal.invariant-loop-i
invariant-loop-i l =
    let s = l.self.shape in
    let list = l.self.listing.words.now in
    Passed (book_word_valid s list l.self.words.now) s.head (book_size s (cells list)) (entry_at s l.i)
