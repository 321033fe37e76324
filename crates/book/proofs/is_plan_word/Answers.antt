-- `book::is_plan_word` meets its contract: its tests are the definition's. Assumes nothing.
use Rattle.book.specs.Check.{is_plan_word}
use Rattle.book.proofs.is_plan_word.Goals as goal

pub returns : goal.returns
unfolding is_plan_word
returns c = rw (c.is_of.ensures, c.of.ensures, c.is_within.ensures)
