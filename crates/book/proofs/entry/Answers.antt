-- `book::entry` meets its contract: it is what the cell's words say. Assumes nothing.
use Rattle.book.proofs.AcceptedBook.{words_long}
use Rattle.book.proofs.entry.Goals as goal

pub entry_of-requires : goal.entry_of-requires
entry_of-requires c = rw c.words_of.ensures (words_long _ _ _ c.requires)

pub returns : goal.returns
returns c = rw (c.entry_of.ensures, c.words_of.ensures)
