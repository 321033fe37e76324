-- `book::issued` meets its contract: it is the number in its words. Assumes nothing.
use Rattle.book.specs.Layout.{issued}
use Rattle.book.proofs.issued.Goals as goal

pub returns : goal.returns
unfolding issued
returns c = rw c.joined.ensures
