-- `book::check_book` meets its contract: its test is the definition's. Assumes nothing.
use Rattle.words.proofs.Answers.{found_by}
use Rattle.book.specs.Check.{book_checked}
use Rattle.book.proofs.check_book.Goals as goal

-- by name, so that a wrong place or a wrong test is reported here
pub returns : goal.returns
unfolding book_checked
returns c = found_by _ _ _ _ _ _ c.first_invalid_word-at.ensures (rw c.size.ensures at c.need.ensures)
