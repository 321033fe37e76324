-- `forecast::put_cells` meets its contract: iteration i writes cell i. Assumes nothing.
use Rattle.words.proofs.Blocks.{Filling}
use Rattle.listing.specs.Layout.{cells, horizon}
use Rattle.book.specs.Current.{current, held_at}
use Rattle.years.specs.Years.{entries_after}
use Rattle.forecast.proofs.put_cells.Given as goal

abbrev pub invariant-loop-i : goal.invariant-loop-i
invariant-loop-i l = let w = l.listing.words.now in Filling current.entry l.initial.book current.head (held_at (entries_after w (horizon w))) (cells w) l.i l.book
