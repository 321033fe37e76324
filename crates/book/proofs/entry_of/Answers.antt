-- `book::entry_of` meets its contract: each figure is the bits of its word. Assumes nothing.
use Rattle.book.specs.Layout.{entry_of}
use Rattle.book.proofs.entry_of.Goals as goal

pub returns : goal.returns
unfolding entry_of
returns c = rw (c.of-4.ensures, c.of-3.ensures, c.of-2.ensures, c.of.ensures)
