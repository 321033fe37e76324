-- `book::year` meets its contract: it is the number in its word. Assumes nothing.
use native.Mathlib.Omega.{arith}
use Rattle.book.specs.Layout.{joined, year}
use Rattle.book.proofs.year.Goals as goal

pub returns : goal.returns
unfolding year joined
returns c = omega (arith, c.of.ensures)
