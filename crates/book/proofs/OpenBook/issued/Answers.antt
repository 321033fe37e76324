-- `book::OpenBook::issued` meets its contract: an accepted book has its head. Assumes nothing.
use Rattle.book.proofs.AcceptedBook.{shaped, open_head}
use Rattle.book.proofs.OpenBook.issued.Goals as goal

pub issued-requires : goal.issued-requires
issued-requires c = (shaped, open_head c.args.self.now)
