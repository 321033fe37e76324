-- `book::is_head_word` meets its contract: its tests are the definition's. Assumes nothing.
use borrow.Author.Tests.{ne_eqb}
use Rattle.book.specs.Check.{is_head_word}
use Rattle.book.proofs.is_head_word.Goals as goal

pub returns-then-k-eq-YEAR_AT : goal.returns-then-k-eq-YEAR_AT
unfolding is_head_word
returns-then-k-eq-YEAR_AT c = rw (c.is_year_word.ensures, c.if-k-eq-YEAR_AT.true)

pub returns : goal.returns
unfolding is_head_word
returns c = rw (c.is_of.ensures, ne_eqb _ _ c.if-k-eq-YEAR_AT.false)
