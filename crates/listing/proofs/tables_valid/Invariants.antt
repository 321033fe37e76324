-- `listing::tables_valid` meets its contract: while the faults are of kind 0, the search has come to `at`. Assumes nothing.
use Rattle.words.specs.Bits.{is_kind}
use Rattle.words.proofs.Steps.{ValidSoFar}
use Rattle.listing.specs.Check.{table_word_valid}
use Rattle.listing.proofs.tables_valid.Given as goal

abbrev pub invariant-loop-at : goal.invariant-loop-at
invariant-loop-at l = ValidSoFar (table_word_valid l.listing) l.start l.end l.at (is_kind 0 l.faults)
