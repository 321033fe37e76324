-- `opening::open_cells` meets its contract: iteration i writes cell i. Assumes nothing.
use Rattle.words.proofs.Blocks.{Filling}
use Rattle.listing.specs.Layout.{cells}
use Rattle.book.specs.Current.{current, held_at}
use Rattle.opening.specs.Opening.{open_entry}
use Rattle.opening.proofs.open_cells.Given as goal

abbrev pub invariant-loop-i : goal.invariant-loop-i
invariant-loop-i l = Filling current.entry l.initial.book current.head (held_at (open_entry l.listing.words.now)) (cells l.listing.words.now) l.i l.book
