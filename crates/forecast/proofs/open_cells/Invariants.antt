-- `forecast::open_cells` meets its contract: iteration i opens cell i. Assumes nothing.
use Rattle.forecast.proofs.Loop.{OpenedSoFar}
use Rattle.forecast.proofs.open_cells.Given as goal

abbrev pub invariant-loop-i : goal.invariant-loop-i
invariant-loop-i l = OpenedSoFar l.listing.words.now l.initial.all l.i l.all
