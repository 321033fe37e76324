-- `book::OpenBook::year` meets its contract: an accepted book has its head. Assumes nothing.
use native.Mathlib.Omega.{arith}
use Rattle.book.proofs.AcceptedBook.{open_head}
use Rattle.book.proofs.OpenBook.year.Goals as goal

pub year-requires : goal.year-requires
year-requires c = omega (arith, open_head c.args.self.now)
