-- `book::is_year_word` meets its contract: its tests are the definition's. Assumes nothing.
use Rattle.book.specs.Check.{is_year_word}
use Rattle.book.proofs.is_year_word.Goals as goal

pub returns : goal.returns
unfolding is_year_word
returns c = rw (c.is_of.ensures, c.is_within.ensures)
