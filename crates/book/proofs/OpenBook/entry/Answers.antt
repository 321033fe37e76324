-- `book::OpenBook::entry` meets its contract: an accepted book has the words of every cell. Assumes nothing.
use Rattle.book.proofs.AcceptedBook.{open_cell}
use Rattle.book.proofs.OpenBook.entry.Goals as goal

pub entry-requires : goal.entry-requires
entry-requires c = open_cell c.args.self.now _ c.requires
