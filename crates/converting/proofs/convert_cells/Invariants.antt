-- `converting::convert_cells` meets its contract: iteration i writes cell i. Assumes nothing.
use Rattle.words.proofs.Blocks.{Filling}
use Rattle.listing.specs.Layout.{cells}
use Rattle.book.specs.Layout.{entry}
use Rattle.book.specs.Held.{held_at}
use Rattle.converting.proofs.convert_cells.Given as goal

abbrev pub invariant-loop-i : goal.invariant-loop-i
invariant-loop-i l = Filling l.to.entry l.initial.new l.to.head (held_at l.to (entry l.from l.old)) (cells l.listing.words.now) l.i l.new
