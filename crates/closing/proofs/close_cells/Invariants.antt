-- `closing::close_cells` meets its contract: iteration i is lent cell i's words as they were at the start, and leaves the closed ones. Assumes nothing.
use Rattle.closing.proofs.Loop.{Progress}
use Rattle.closing.proofs.close_cells.Given as goal

abbrev pub invariant-loop-i : goal.invariant-loop-i
invariant-loop-i l = Progress l.listing.words.now l.initial.book l.initial.lines l.i l.book l.lines
