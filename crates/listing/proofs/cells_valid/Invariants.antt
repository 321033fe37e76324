-- `listing::cells_valid` meets its contract: while `valid` is true, the search has come to cell `i`. Assumes nothing.
use Prim.Native.Nat.{◌+◌, ◌*◌}
use Rattle.words.proofs.Steps.{ValidSoFar}
use Rattle.listing.specs.Layout.{cell_words}
use Rattle.listing.specs.Check.{cell_word_valid}
use Rattle.listing.proofs.cells_valid.Given as goal

abbrev pub invariant-loop-i : goal.invariant-loop-i
invariant-loop-i l =
    ValidSoFar (cell_word_valid l.listing l.h.strata l.h.horizon l.start) l.start (l.start + cell_words * l.h.cells) (l.start + cell_words * l.i) l.valid
