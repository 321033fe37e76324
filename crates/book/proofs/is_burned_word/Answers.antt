-- `book::is_burned_word` meets its contract: its tests are the definition's. Assumes nothing.
use Rattle.book.specs.Check.{is_burned_word}
use Rattle.book.proofs.is_burned_word.Goals as goal

pub returns : goal.returns
unfolding is_burned_word
returns c = rw (c.is_of.ensures, c.of.ensures, c.of-2.ensures)
