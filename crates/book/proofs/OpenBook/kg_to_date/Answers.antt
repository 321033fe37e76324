-- `book::OpenBook::kg_to_date` meets its contract: the words of an accepted cell give its kg. Assumes nothing.
use Rattle.book.proofs.AcceptedBook.{open_cell, open_words}
use Rattle.book.proofs.OpenBook.kg_to_date.Goals as goal

pub words_of-requires : goal.words_of-requires
words_of-requires c = open_cell c.args.self.now _ c.requires

pub kg_of-requires : goal.kg_of-requires
kg_of-requires c =
    open_words c.args.self.now _ _ _ c.requires c.cell-c.ensures c.words_of.ensures

pub returns : goal.returns
returns c = rw (c.kg_of.ensures, c.args.self.now.listing.is_head, c.cell-c.ensures, c.words_of.ensures)
